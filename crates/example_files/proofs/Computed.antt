-- The tables of files hold by computation. Assumes nothing.
use mathlib.Core.Path.{refl}
use Rattle.chart_claims.specs.Exchanged.{rearranged, in_place_of}
use Rattle.example_charts.specs.Cases.{gives, expected}
use Rattle.example_charts.proofs.Open.{files_open, tables_open, conversions_open, runs_open}
use Rattle.example_files.specs.Files.{file_cases, FileExamples}
use Rattle.example_files.specs.Checks.{check_cases, CheckCases, BlocksExchanged}
use Rattle.example_files.specs.Conversions.{conversion_cases, ConversionCases}

pub file_examples : FileExamples
unfolding files_open gives expected file_cases
file_examples = (refl, refl)

pub check_cases_lem : CheckCases
unfolding runs_open gives expected rearranged in_place_of check_cases
check_cases_lem = (refl, refl)

pub blocks_exchanged : BlocksExchanged
unfolding files_open tables_open rearranged in_place_of
blocks_exchanged = refl

pub conversion_cases_lem : ConversionCases
unfolding conversions_open gives expected conversion_cases
conversion_cases_lem = (refl, refl)
