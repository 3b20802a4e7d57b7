-- A name is UTF-8, as each byte of it is below 128.
use Rattle.std.proofs.Common.{◌≡◌, ℕ, ◌<◌, true, List, [], ◌∷◌, arith}
use Rattle.std.specs.List.{list_all, All}
use Rattle.std.specs.Str.{IsUtf8}
use Rattle.std.proofs.lemmas.List.Elements.{All-nil, All-cons}
use Rattle.std.proofs.lemmas.Bool.{and_parts}
use Rattle.std.proofs.lemmas.Bool.Decides.{nat_tests}
use Rattle.std.proofs.lemmas.Str.{IsUtf8-from_ascii}
use Rattle.std.proofs.lemmas.Str.Ascii.{IsAscii-from_all}
use Rattle.text.specs.Names.{in_name, is_name}

ascii_byte : (b : ℕ) → in_name b ≡ true → b < 128
ascii_byte b h = grind (arith, nat_tests)

ascii_bytes : (bs : List ℕ) → list_all in_name bs ≡ true → All (λ b. b < 128) bs
ascii_bytes [] h = All-nil _
ascii_bytes (b ∷ bs) h = let parts = and_parts _ _ h in All-cons (λ x. x < 128) b bs (ascii_byte b parts.0) (ascii_bytes bs parts.1)

pub name_utf8 : (name : List ℕ) → is_name name ≡ true → IsUtf8 name
name_utf8 name h =
    let letters = (and_parts _ _ (and_parts _ _ h).0).1 in
    IsUtf8-from_ascii name (IsAscii-from_all name (ascii_bytes name letters))
