-- A number of 64 bits is spelled as std spells it, in at most 20 digits. Assumes nothing.
use Rattle.std.proofs.Common.{◌≡◌, ℕ, ◌^◌, ◌<◌, sym, arith, rules}
use Rattle.std.specs.Fmt as std
use Rattle.std.proofs.lemmas.Fmt.{AppendsLastDigit, decimal_from_appends, length-decimal-le}
use Rattle.texts.specs.Printing.{decimal_in, decimal}

by_last_digit : AppendsLastDigit decimal_in
unfolding decimal_in
by_last_digit = search rules

pub decimal_is : (n : ℕ) → n < 2 ^ 64 → std.decimal n ≡ decimal n
decimal_is n l = sym (decimal_from_appends decimal_in by_last_digit 20 n l (length-decimal-le 20 n (omega arith) (omega arith) l))
