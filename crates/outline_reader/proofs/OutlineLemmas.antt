-- A text has its one outline, or its one fault.
use Rattle.std.proofs.Common.{◌≡◌, List, Ok, Err, sym, ◌∙◌, ap, subst}
use Rattle.proof_lexer.specs.declared.token.Token.{Token}
use Rattle.outline_reader.specs.declared.fault.OutlineFault.{OutlineFault}
use Rattle.outline_reader.specs.declared.symbols.Role.{Role}
use Rattle.outline_reader.specs.Reading.{Answer, roles}
use Rattle.outline_reader.specs.Views.{Piece}
use Rattle.outline_reader.specs.Portions.{portions}
use Rattle.outline_reader.specs.Outline.{IsAnswer, IsOutline, IsFault}
use Rattle.outline_reader.proofs.AnswerLemmas.{answer_is_read, read_is_answer}

pub ok_one : (x y : List Role) → (let a : Answer = Ok x in a) ≡ Ok y → x ≡ y
ok_one x y e = cc

pub ok_not_err : {A : Type 0} (x : List Role) (fault : OutlineFault) → (let a : Answer = Ok x in a) ≡ Err fault → A
ok_not_err x fault e = cc

pub err_one : (x y : OutlineFault) → (let a : Answer = Err x in a) ≡ Err y → x ≡ y
err_one x y e = cc

-- the one outline
pub outlined : (tokens : List Token) (found : List Role) (pieces : List Piece) → roles tokens ≡ Ok found → pieces ≡ portions found tokens →
    IsOutline tokens pieces × ((others : List Piece) → IsOutline tokens others → others ≡ pieces) × ((fault : OutlineFault) → IsFault tokens fault → ⊥)
outlined tokens found pieces read are = (
  (found, subst (λ (answer : Answer). IsAnswer tokens answer) read (read_is_answer tokens), are),
  (λ others h. h.2 ∙ ap (λ rs. portions rs tokens) (ok_one h.0 found (sym (answer_is_read tokens (Ok h.0) h.1) ∙ read)) ∙ sym are),
  (λ fault h. ok_not_err found fault (sym read ∙ answer_is_read tokens (Err fault) h)),
)

-- the one fault
pub faulty : (tokens : List Token) (fault : OutlineFault) → roles tokens ≡ Err fault →
    IsFault tokens fault × ((other : OutlineFault) → IsFault tokens other → other ≡ fault) × ((pieces : List Piece) → IsOutline tokens pieces → ⊥)
faulty tokens fault read = (
  subst (λ (answer : Answer). IsAnswer tokens answer) read (read_is_answer tokens),
  (λ other h. err_one other fault (sym (answer_is_read tokens (Err other) h) ∙ read)),
  (λ pieces h. ok_not_err h.0 fault (sym (answer_is_read tokens (Ok h.0) h.1) ∙ read)),
)
