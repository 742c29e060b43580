-- A chart file that is too long is refused by its length alone, and so is its beginning. Assumes
-- nothing.
use Rattle.std.specs.Prelude.{Err}
use Prim.Native.Nat.{ℕ, ◌<◌}
use mathlib.Core.Path.{◌≡◌, refl, ap, sym, ◌∙◌}
use mathlib.Core.List.{List, []}
use native.Mathlib.Decide.{dec_lt}
use native.Mathlib.Omega.{arith}
use lib.ListN.{length, take, length-take}
use lib.Seq.{take_all}
use borrow.Author.Tests.{ltb-true, ne_eqb}
use Rattle.block.specs.Refusing.{refusal}
use Rattle.format.specs.File.{check_file}
use Rattle.calls.specs.Calls.{file_verdict, check}
use Rattle.runner.specs.State.{new_runner}
use Rattle.runner.specs.Outcomes.{refused, outcome_by, call}
use Rattle.reply.specs.Reply.{loading}
use Rattle.program_claims.specs.SessionClaims.{FirstBytes}

too_long : (file : List ℕ) → 2560 < length file → check_file file ≡ Err (refusal 1 0)
unfolding check_file
too_long file l =
    let n = length file in
    rw (ne_eqb n 1024 (λ e. omega arith), ne_eqb n 1536 (λ e. omega arith), ne_eqb n 2048 (λ e. omega arith), ne_eqb n 2560 (λ e. omega arith)) refl

refuses : (file : List ℕ) → 2560 < length file → loading file new_runner ≡ record { told = record { reply = refused 1 0; buffer = [] }; next = new_runner }
unfolding call check outcome_by file_verdict new_runner
refuses file l = rw (too_long file l) refl

-- Any beginning that is longer than a chart file can be.
first_of : (n : ℕ) → 2560 < n → (file : List ℕ) → loading (take n file) new_runner ≡ loading file new_runner
first_of n m file = by (dec_lt 2560 (length file))
  where
    by : Dec (2560 < length file) → loading (take n file) new_runner ≡ loading file new_runner
    by (yes l) = refuses (take n file) (omega (arith, length-take n file)) ∙ sym (refuses file l)
    by (no l) = ap (λ (f : List ℕ). loading f new_runner) (take_all n file (omega arith))

pub first_bytes : FirstBytes
first_bytes file = search (first_of, ltb-true)
