-- How the words of a line are read, from the first on. A reading gives what the words say and the words that are left, or
-- else the words from the wrong one on and what should stand in its place.
use Rattle.std.specs.Prelude.{ℕ, Bool, true, false, cond, ◌||◌, List, [], ◌∷◌, Some, None, Ok, Err, codes, Option, Result}
use Rattle.std.specs.Str.{bytes_eq}
use Rattle.reading.specs.declared.problem.Expected.{Expected}

abbrev pub Text : Type 0
Text = List ℕ

abbrev pub Parsed : Type 0 → Type 0
Parsed A = Result (A × List Text) (List Text × Expected)

abbrev pub and_then : {A B : Type 0} → Parsed A → (A → List Text → Parsed B) → Parsed B
and_then (Ok p) f = f p.0 p.1
and_then (Err e) f = Err e

-- the first word
abbrev pub first : {A : Type 0} → (Text → Option A) → Expected → List Text → Parsed A
first f expected [] = Err ([], expected)
first f expected (w ∷ ws) = elim (f w) [ Some a ↦ Ok (a, ws) | None ↦ Err (w ∷ ws, expected) ]

-- no word
abbrev pub none : Expected → List Text → Parsed (Unit {0})
none expected [] = Ok (tt, [])
none expected (w ∷ ws) = Err (w ∷ ws, expected)

-- a word that begins a section of an operation
abbrev pub section_word : Text → Bool
section_word w =
    bytes_eq w (codes "at") || bytes_eq w (codes "results") || bytes_eq w (codes "operands") || bytes_eq w (codes "successors") || bytes_eq w (codes "regions")

-- the words up to the next section or the end of the line
abbrev pub many : {A : Type 0} → (Text → Option A) → Expected → List Text → Parsed (List A)
many f expected [] = Ok ([], [])
many f expected (w ∷ ws) =
    cond (section_word w) (Ok ([], w ∷ ws))
    (elim (f w) [ Some a ↦ and_then (many f expected ws) (λ rest left. Ok (a ∷ rest, left)) | None ↦ Err (w ∷ ws, expected) ])

-- whether the first word is this, and the words that are left without it
abbrev pub eaten : Text → List Text → Bool × List Text
eaten key [] = (false, [])
eaten key (w ∷ ws) = cond (bytes_eq w key) (true, ws) (false, w ∷ ws)

-- a section that begins with this word, or what its absence says
abbrev pub section : {A : Type 0} → Text → (List Text → Parsed A) → A → List Text → Parsed A
section key f absent [] = Ok (absent, [])
section key f absent (w ∷ ws) = cond (bytes_eq w key) (f ws) (Ok (absent, w ∷ ws))
