-- A statement is read to the end of its line.
use Rattle.std.proofs.Common.{◌≡◌, Bool, true, false, cond, List, [], ◌∷◌, Some, Ok, Err, codes, refl, subst}
use Rattle.std.specs.Str.{bytes_eq}
use Rattle.text.specs.Kinds.{kind_of}
use Rattle.text.specs.Names.{name_of}
use Rattle.reading.specs.Grammar.{Text, Parsed, and_then, first, many}
use Rattle.statements.specs.Lines.{StatementSaid, types, block, op, place, saying, statement_line, whole_line}
use Rattle.reading.specs.Items.{handle_of, id_of, in_of}
use Rattle.reading.specs.Targets.{target_of}
use Rattle.statements.specs.Statements.{ended, location_section, results_section, operands_section, successors_section, regions_section, types_line, block_line, op_line, place_line}
use Rattle.reading.specs.declared.problem.Expected.{Expected}
use Rattle.reading.specs.declared.problem.Expected.TheVariants as wanted

-- no word is left
abbrev Whole : {A : Type 0} → Parsed A → Type 0
Whole (Ok p) = p.1 ≡ []
Whole (Err e) = Unit {0}

ended_whole : {A : Type 0} (expected : Expected) (said : A) (ws : List Text) → Whole (ended expected said ws)
ended_whole expected said [] = refl
ended_whole expected said (w ∷ ws) = tt

then_whole : {A B : Type 0} (p : Parsed A) (f : A → List Text → Parsed B) → ((a : A) (ws : List Text) → Whole (f a ws)) → Whole (and_then p f)
then_whole (Ok p) f h = h p.0 p.1
then_whole (Err e) f h = tt

saying_whole : {A B : Type 0} (said : A → B) (p : Parsed A) → Whole p → Whole (saying said p)
saying_whole said (Ok p) h = h
saying_whole said (Err e) h = tt

cond_whole : {A : Type 0} (b : Bool) (p q : Parsed A) → Whole p → Whole q → Whole (cond b p q)
cond_whole true p q h k = h
cond_whole false p q h k = k

types_whole : (ws : List Text) → Whole (types_line ws)
types_whole ws = then_whole (many id_of wanted.TypeId ws) _ (λ ids. ended_whole _ _)

block_whole : (ws : List Text) → Whole (block_line ws)
block_whole ws =
    then_whole (first name_of wanted.Name ws) _ (λ _ ws₁.
    then_whole (many handle_of wanted.TypeHandle ws₁) _ (λ _. ended_whole _ _))

op_whole : (ws : List Text) → Whole (op_line ws)
op_whole ws =
    then_whole (first name_of wanted.Name ws) _ (λ _ ws₁.
    then_whole (first kind_of wanted.Kind ws₁) _ (λ _ ws₂.
    then_whole (location_section ws₂) _ (λ _ ws₃.
    then_whole (results_section ws₃) _ (λ _ ws₄.
    then_whole (operands_section ws₄) _ (λ _ ws₅.
    then_whole (successors_section ws₅) _ (λ _ ws₆.
    then_whole (regions_section ws₆) _ (λ _. ended_whole _ _)))))))

place_whole : (ws : List Text) → Whole (place_line ws)
place_whole ws =
    then_whole (first name_of wanted.Name ws) _ (λ _ ws₁.
    then_whole (first in_of wanted.In ws₁) _ (λ _ ws₂.
    then_whole (first target_of wanted.Target ws₂) _ (λ _. ended_whole _ _)))

statement_whole : (ws : List Text) → Whole (statement_line ws)
statement_whole [] = tt
statement_whole (w ∷ ws) =
    cond_whole (bytes_eq w (codes "types")) _ _ (saying_whole types _ (types_whole ws))
    (cond_whole (bytes_eq w (codes "block")) _ _ (saying_whole block _ (block_whole ws))
    (cond_whole (bytes_eq w (codes "op")) _ _ (saying_whole op _ (op_whole ws))
    (cond_whole (bytes_eq w (codes "place")) _ _ (saying_whole place _ (place_whole ws)) tt)))

-- a statement that was read is all that the line says
pub whole_said : (ws rest : List Text) (s : StatementSaid) → statement_line ws ≡ Ok (s, rest) → whole_line ws ≡ Ok (Some s, [])
whole_said [] rest s e = cc
whole_said (w ∷ ws) rest s e =
    let no_more : rest ≡ [] = subst Whole e (statement_whole (w ∷ ws)) in
    rw (e, no_more) refl
