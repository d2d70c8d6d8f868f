-- A source is a valid text in one way, and stands for one list of inputs.
use Rattle.std.proofs.Common.{◌≡◌, ℕ, List, [], ◌∷◌, ◌++◌, refl, ap, ◌∙◌, sym, subst, inl, inr}
use Rattle.proof_lexer.proofs.UniqueLemmas.{tokens_unique}
use Rattle.rule_schemes.specs.Rules.{Theory, IsSystemSoFar}
use Rattle.rule_schemes.specs.Reading.{Token, word, punctuation}
use Rattle.derivation_text.specs.Bare.{HasNoContexts}
use Rattle.derivation_text.specs.Ending.{IsRest, IsArguments}
use Rattle.derivation_text.specs.Forms.{Argument, by_name, enclosed, argument_tokens, further_arguments, arguments_tokens, further_names, names_tokens}
use Rattle.derivation_text.specs.Inputs.{GivesInputs}
use Rattle.derivation_text.specs.Laws.{TextsAreUnique, TextGivesInputs, InputsAreUnique}
use Rattle.derivation_text.specs.Lines.{Line, text_lines}
use Rattle.derivation_text.specs.Valid.{Around, Contents, Last, no_last, applied, given_out, nothing_around, IsLast, AreValid}
use Rattle.derivation_text.specs.declared.derivs.Named.{Named}
use Rattle.derivation_text.proofs.EndingLemmas.{front_once, words_apart, word_text}
use Rattle.derivation_text.proofs.ReaderLemmas.{names_once, names_not_last, lines_of_text}
use Rattle.derivation_text.proofs.InputLemmas.{one_inputs}
use Rattle.binding_terms.proofs.Lists.{cons_head, cons_tail}

rest_once : (known : List Named) (ts : List Token) (a b : List Argument) → IsRest known ts a → IsRest known ts b → a ≡ b
rest_once known ts [] [] h k = refl
rest_once known ts [] (b ∷ bs) h k = absurd (let e : [] ≡ punctuation 44 ∷ (argument_tokens b ++ further_arguments bs) = sym h.tokens_are ∙ k.tokens_are in cc)
rest_once known ts (a ∷ as_is) [] h k = absurd (let e : [] ≡ punctuation 44 ∷ (argument_tokens a ++ further_arguments as_is) = sym k.tokens_are ∙ h.tokens_are in cc)
rest_once known ts (a ∷ more) (b ∷ bs) h k =
    let once = front_once known (argument_tokens a ++ further_arguments more) a b (further_arguments more) (further_arguments bs)
    (record { tokens_are = refl; is_argument = h.are_arguments.0; is_known = h.are_known.0 })
    (record { tokens_are = cons_tail (sym h.tokens_are ∙ k.tokens_are); is_argument = k.are_arguments.0; is_known = k.are_known.0 }) in
    let rest = rest_once known (further_arguments more) more bs (record { tokens_are = refl; are_arguments = h.are_arguments.1; are_known = h.are_known.1 })
    (record { tokens_are = once.1; are_arguments = k.are_arguments.1; are_known = k.are_known.1 }) in
    λ i. once.0 i ∷ rest i

pub no_argument : (a : Argument) (rest : List Token) → [] ≡ argument_tokens a ++ rest → ⊥
no_argument (by_name w) rest e = (let h : [] ≡ word w ∷ rest = e in cc)
no_argument (enclosed form) rest e = (let h : [] ≡ punctuation 40 ∷ ((form ++ punctuation 41 ∷ []) ++ rest) = e in cc)

arguments_once : (known : List Named) (ts : List Token) (a b : List Argument) → IsArguments known ts a → IsArguments known ts b → a ≡ b
arguments_once known ts [] [] h k = refl
arguments_once known ts [] (b ∷ bs) h k = absurd (no_argument b (further_arguments bs) (sym h.tokens_are ∙ k.tokens_are))
arguments_once known ts (a ∷ more) [] h k = absurd (no_argument a (further_arguments more) (sym k.tokens_are ∙ h.tokens_are))
arguments_once known ts (a ∷ more) (b ∷ bs) h k =
    let once = front_once known ts a b (further_arguments more) (further_arguments bs)
    (record { tokens_are = h.tokens_are; is_argument = h.are_arguments.0; is_known = h.are_known.0 })
    (record { tokens_are = k.tokens_are; is_argument = k.are_arguments.0; is_known = k.are_known.0 }) in
    let rest = rest_once known (further_arguments more) more bs (record { tokens_are = refl; are_arguments = h.are_arguments.1; are_known = h.are_known.1 })
    (record { tokens_are = once.1; are_arguments = k.are_arguments.1; are_known = k.are_known.1 }) in
    λ i. once.0 i ∷ rest i

further_once : (ws vs : List (List ℕ)) → further_names ws ≡ further_names vs → ws ≡ vs
further_once [] [] e = refl
further_once [] (v ∷ vs) e = absurd (cc)
further_once (w ∷ ws) [] e = absurd (cc)
further_once (w ∷ ws) (v ∷ vs) e =
    let first = word_text (cons_head (cons_tail e)) in
    let rest = further_once ws vs (cons_tail (cons_tail e)) in
    λ i. first i ∷ rest i

pub names_tokens_once : (ws vs : List (List ℕ)) → names_tokens ws ≡ names_tokens vs → ws ≡ vs
names_tokens_once [] [] e = refl
names_tokens_once [] (v ∷ vs) e = absurd (cc)
names_tokens_once (w ∷ ws) [] e = absurd (cc)
names_tokens_once (w ∷ ws) (v ∷ vs) e =
    let first = word_text (cons_head e) in
    let rest = further_once ws vs (cons_tail e) in
    λ i. first i ∷ rest i

last_once : (known : List Named) (ts : List Token) (a b : Last) → IsLast known ts a → IsLast known ts b → a ≡ b
last_once known ts no_last b h k = absurd h
last_once known ts (applied a) no_last h k = absurd k
last_once known ts (given_out ws) no_last h k = absurd k
last_once known ts (applied a) (given_out vs) h k = absurd (words_apart (word_text (cons_head (sym h.0.tokens_are ∙ k.0.tokens_are))))
last_once known ts (given_out ws) (applied b) h k = absurd (words_apart (word_text (cons_head (sym k.0.tokens_are ∙ h.0.tokens_are))))
last_once known ts (given_out ws) (given_out vs) h k = ap given_out (names_tokens_once ws vs (cons_tail (sym h.0.tokens_are ∙ k.0.tokens_are)))
last_once known ts (applied a) (applied b) h k =
    ap applied
    (arguments_once known (arguments_tokens a) a b (record { tokens_are = refl; are_arguments = h.0.well_written; are_known = h.1 })
    (record { tokens_are = cons_tail (sym h.0.tokens_are ∙ k.0.tokens_are); are_arguments = k.0.well_written; are_known = k.1 }))

module _ (th : Theory) (bare : HasNoContexts th) (so_far : IsSystemSoFar th) where
  valid_once : (lines : List Line) (known : List Named) (c d : Contents) → AreValid th nothing_around known lines c → AreValid th nothing_around known lines d → c ≡ d
  valid_once [] known c d h k =
      let named = h.0 ∙ sym k.0 in
      let last = h.1 ∙ sym k.1 in
      λ i. record { named = named i; last = last i }
  valid_once (line ∷ lines) known c d (inl h) (inl k) =
      valid_once lines (known ++ k.0 ∷ []) c d
      (subst (λ (one : Named). AreValid th nothing_around (known ++ one ∷ []) lines c) (names_once th bare so_far known line.1 h.0 k.0 h.1 k.1) h.2) k.2
  valid_once (line ∷ lines) known c d (inl h) (inr k) = absurd (names_not_last th known line.1 h.0 d.last h.1 k.0)
  valid_once (line ∷ lines) known c d (inr h) (inl k) = absurd (names_not_last th known line.1 k.0 c.last k.1 h.0)
  valid_once (line ∷ lines) known c d (inr h) (inr k) =
      let named = h.2 ∙ sym k.2 in
      let last = last_once known line.1 c.last d.last h.0 k.0 in
      λ i. record { named = named i; last = last i }

pub one_text : TextsAreUnique
one_text th source around other c d so_far bare h k =
    let first = lines_of_text th bare tokens_unique source h.tokens around c h.are_tokens h in
    let second = lines_of_text th bare tokens_unique source h.tokens other d h.are_tokens k in
    (first.0 ∙ sym second.0, valid_once th bare so_far (text_lines h.tokens) [] c d first.1 second.1)

pub text_gives : TextGivesInputs
text_gives th st source around c xs so_far bare text = (
  λ gives. record { around = around; contents = c; text = text; inputs = gives },
  λ stands.
      (let same = one_text th source stands.around around stands.contents c so_far bare stands.text text in
      subst (λ (x : Contents). GivesInputs th st around x xs) same.1 (subst (λ (x : Around). GivesInputs th st x stands.contents xs) same.0 stands.inputs)),
)

pub one_list : InputsAreUnique
one_list th st source xs ys so_far bare takes h k =
    let other = (text_gives th st source h.around h.contents ys so_far bare h.text).1 k in
    let nothing = (lines_of_text th bare tokens_unique source h.text.tokens h.around h.contents h.text.are_tokens h.text).0 in
    one_inputs th st h.contents xs ys takes (subst (λ (x : Around). GivesInputs th st x h.contents xs) nothing h.inputs) (subst (λ (x : Around). GivesInputs th st x h.contents ys) nothing other)
