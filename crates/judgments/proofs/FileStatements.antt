-- The statements of a file, portion by portion.
use Rattle.std.proofs.Common.{◌≡◌, ◌≢◌, ◌+◌, ◌<◌, ℕ, List, [], ◌∷◌, ◌++◌, length, map, drop, get_or, refl, ap, ◌∙◌, sym, subst, arith, Option, Some, None, MatchOption, IfOk, Result, Ok, Err, append-nil, append_assoc}
use Rattle.std.specs.Prelude.{option_map}
use Rattle.std.specs.List.{AllByRecursion, AllZip}
use Rattle.std.proofs.lemmas.List.{drop_more}
use Rattle.sy_base.specs.Tokens.{PlainToken}
use Rattle.proof_lexer.specs.View.{token_view, kind_and_text}
use Rattle.proof_lexer.specs.declared.token.Token as of_token
use Rattle.outline_reader.specs.Plain.{PlainPortion, PlainArgument, name_alone, plain_form, plain_input}
use Rattle.outline_reader.specs.Views.{input_view}
use Rattle.outline_reader.specs.declared.parts.InputText.{InputText}
use Rattle.rule_schemes.specs.Reading.{Token}
use Rattle.rule_schemes.specs.Rules.{Theory}
use Rattle.rule_schemes.specs.Statement.{Theorem}
use Rattle.judgments.specs.Bare.{IsBareTheory, IsBareStatement}
use Rattle.judgments.specs.Built.{IsBuiltTheorem, bare_text}
use Rattle.judgments.specs.Statements.{IsTargetWord, IsTheoremOf, AreTargetsEven, AreStatementsOf}
use Rattle.judgments.specs.Texts.{TheoremText, as_read, written_input, theorem_in, theorems_in, groups_after}
use Rattle.judgments.specs.Theory.{a_theorem, AreNamedApart}
use Rattle.judgments.specs.Views.{input_text}
use Rattle.judgments.specs.Written.{WrittenInput, IsTarget}
use Rattle.judgments.proofs.StatementLemmas.{AreGiven}
use Rattle.judgments.proofs.StatementSays.{all, one_statement}
use Rattle.judgments.proofs.SystemLemmas.{forms_read}
use Rattle.binding_terms.proofs.Lists.{zip_append, zip_both, zip_left, zip_map, zip_right, zip_split, zip_unique}

module _ {X : Type 0} (f : X → PlainPortion) (R : TheoremText → Theorem → Type 0) (xs : List X) where
  -- what is stated up to a portion, and what is left
  pub record AreStated (n : ℕ) (rest : List X) (sts : List Theorem) : Type 0 where
    pub done : List TheoremText
    pub left : done ++ theorems_in n (map f rest) ≡ theorems_in 0 (map f xs)
    pub stated : AllZip R done sts

  module _ (i : ℕ) (d : X) (lt : i < length xs) (n : ℕ) where
    at_front : map f (drop i xs) ≡ f (get_or xs i d) ∷ map f (drop (i + 1) xs)
    at_front = ap (map f) (drop_more xs i d lt)

    one_more : (done : List TheoremText) → done ++ theorems_in n (map f (drop i xs)) ≡ theorems_in 0 (map f xs)
        → done ++ theorem_in n (f (get_or xs i d)) (map f (drop (i + 1) xs)) ++ theorems_in (groups_after n (f (get_or xs i d))) (map f (drop (i + 1) xs)) ≡ theorems_in 0 (map f xs)
    one_more done e =
        append_assoc done (theorem_in n (f (get_or xs i d)) (map f (drop (i + 1) xs))) (theorems_in (groups_after n (f (get_or xs i d))) (map f (drop (i + 1) xs)))
        ∙ ap (λ ps. done ++ theorems_in n ps) (sym at_front) ∙ e

    -- the theorems of one portion more
    pub next_stated : (m : ℕ) (sts more : List Theorem) → m ≡ groups_after n (f (get_or xs i d)) → AreStated n (drop i xs) sts
        → AllZip R (theorem_in n (f (get_or xs i d)) (map f (drop (i + 1) xs))) more → AreStated m (drop (i + 1) xs) (sts ++ more)
    next_stated m sts more e h k = record {
      done = h.done ++ theorem_in n (f (get_or xs i d)) (map f (drop (i + 1) xs));
      left = ap (λ b. h.done ++ theorem_in n (f (get_or xs i d)) (map f (drop (i + 1) xs)) ++ theorems_in b (map f (drop (i + 1) xs))) e ∙ one_more h.done h.left;
      stated = zip_append R h.done (theorem_in n (f (get_or xs i d)) (map f (drop (i + 1) xs))) sts more h.stated k;
    }

    -- where one portion stands for no statement, the portions stand for none
    pub no_theorems : (sts : List Theorem) → AreStated n (drop i xs) sts → ((more : List Theorem) → AllZip R (theorem_in n (f (get_or xs i d)) (map f (drop (i + 1) xs))) more → ⊥)
        → (all : List Theorem) → AllZip R (theorems_in 0 (map f xs)) all → ⊥
    no_theorems sts h none all k =
        let here = theorem_in n (f (get_or xs i d)) (map f (drop (i + 1) xs)) in
        let later = theorems_in (groups_after n (f (get_or xs i d))) (map f (drop (i + 1) xs)) in
        let whole = sym (one_more h.done h.left) ∙ append_assoc h.done here later in
        let two = zip_split R h.done (here ++ later) all (subst (λ texts. AllZip R texts all) whole k) in
        let one = zip_split R here later two.1 two.4 in
        none one.0 one.3

  pub all_stated : (n : ℕ) (rest : List X) (sts : List Theorem) → rest ≡ [] → AreStated n rest sts → AllZip R (theorems_in 0 (map f xs)) sts
  all_stated n rest sts e h =
      subst (λ texts. AllZip R texts sts) (sym (append-nil h.done) ∙ ap (λ (l : List X). h.done ++ theorems_in n (map f l)) (sym e) ∙ h.left) h.stated

-- a theorem as it is stated
abbrev pub stated_text : ℕ → List ℕ → Option PlainToken → List WrittenInput → List (List Token) → List PlainArgument → TheoremText
stated_text n w a inputs outputs targets = record { group = n; name = w; assumes = a; inputs = inputs; outputs = outputs; targets = targets }

inputs_read_as : (xs : List InputText) → map written_input (map plain_input (map input_view xs)) ≡ map input_text xs
inputs_read_as [] = refl
inputs_read_as (x ∷ xs) = ap (λ l. input_text x ∷ l) (inputs_read_as xs)

pub same_theorem : {X : Type 0} (now : X → List of_token.Token) (n : ℕ) (w : List ℕ) (a : Option PlainToken) (xs : List InputText) (ys : List X) (targets : List PlainArgument) → a ≡ None → targets ≡ []
    → bare_text n w (map input_text xs) (map (λ y. map kind_and_text (now y)) ys) ≡ stated_text n w a (map written_input (map plain_input (map input_view xs))) (map as_read (map plain_form (map now ys))) targets
same_theorem now n w a xs ys targets e t = λ i. record { group = n; name = w; assumes = sym e i; inputs = sym (inputs_read_as xs) i; outputs = sym (forms_read now ys) i; targets = sym t i }

pub alone_stated : (th : Theory) (text other : TheoremText) (st : Theorem) → text ≡ other → IsBuiltTheorem th text st → AllZip (IsBuiltTheorem th) (other ∷ []) (st ∷ [])
alone_stated th text other st e h = (subst (λ (t : TheoremText). IsBuiltTheorem th t st) e h, tt)

pub alone_none : (th : Theory) (text other : TheoremText) → text ≡ other → ((st : Theorem) → IsBuiltTheorem th text st → ⊥) → (sts : List Theorem) → AllZip (IsBuiltTheorem th) (other ∷ []) sts → ⊥
alone_none th text other e none [] h = h
alone_none th text other e none (st ∷ sts) h = none st (subst (λ (t : TheoremText). IsBuiltTheorem th t st) (sym e) h.0)

no_targets : (inputs : List WrittenInput) (ws : List (List ℕ)) (ns : List ℕ) → AllZip (IsTarget inputs) ws ns → ns ≡ [] → ws ≡ []
no_targets inputs [] ns h e = refl
no_targets inputs (v ∷ ws) [] h e = absurd h
no_targets inputs (v ∷ ws) (n ∷ ns) h e = (let never : n ∷ ns ≡ [] = e in cc)

no_words : (us : List PlainArgument) (ws : List (List ℕ)) → AllZip IsTargetWord us ws → ws ≡ [] → us ≡ []
no_words [] ws h e = refl
no_words (u ∷ us) [] h e = absurd h
no_words (u ∷ us) (v ∷ ws) h e = (let never : v ∷ ws ≡ [] = e in cc)

pub built_targets : (th : Theory) (text : TheoremText) (st : Theorem) → IsBuiltTheorem th text st → text.targets ≡ []
built_targets th text st h =
    no_words text.targets (h.0).targets (h.0).target_words (no_targets text.inputs (h.0).targets st.targets ((h.0).written).targets_are (h.1).targets)

pub targets_none : (th : Theory) (text : TheoremText) → text.targets ≢ [] → (sts : List Theorem) → AllZip (IsBuiltTheorem th) (text ∷ []) sts → ⊥
targets_none th text some [] h = h
targets_none th text some (st ∷ sts) h = some (built_targets th text st h.0)

pub terms_none : (th : Theory) → IsBareTheory th → (text : TheoremText) → (AreGiven text.inputs → ⊥) → (st : Theorem) → IsBuiltTheorem th text st → ⊥
terms_none th bare text none st h = none (all th bare text st h)

even : (texts : List TheoremText) → AllByRecursion (λ (t : TheoremText). t.targets ≡ []) texts → AreTargetsEven texts
even [] h = tt
even (t ∷ ts) h = (same ts h.1, even ts h.1)
  where
    same : (us : List TheoremText) → AllByRecursion (λ (u : TheoremText). u.targets ≡ []) us → AllByRecursion (λ (u : TheoremText). u.group ≡ t.group → length u.targets ≡ length t.targets) us
    same [] k = tt
    same (u ∷ us) k = (λ g. ap length (k.0 ∙ sym h.0), same us k.1)

-- the statements of a file
module _ (th : Theory) (bare : IsBareTheory th) (portions : List PlainPortion) where
  built_from : (sts : List Theorem) → AreStatementsOf portions th sts → AllByRecursion IsBareStatement sts → AllZip (IsBuiltTheorem th) (theorems_in 0 portions) sts
  built_from sts h k = zip_both (IsTheoremOf th) IsBareStatement (theorems_in 0 portions) sts h.each k

  pub are_statements : AreNamedApart a_theorem portions → (sts : List Theorem) → AllZip (IsBuiltTheorem th) (theorems_in 0 portions) sts
      → AreStatementsOf portions th sts × AllByRecursion IsBareStatement sts × ((others : List Theorem) → AreStatementsOf portions th others → AllByRecursion IsBareStatement others → others ≡ sts)
  are_statements apart sts h = (
    record {
      each = zip_map (IsBuiltTheorem th) (IsTheoremOf th) (λ t s b. b.0) (theorems_in 0 portions) sts h;
      theorem_names = apart;
      targets = even (theorems_in 0 portions) (zip_left (IsBuiltTheorem th) (λ (t : TheoremText). t.targets ≡ []) (built_targets th) (theorems_in 0 portions) sts h);
    },
    zip_right (IsBuiltTheorem th) IsBareStatement (λ t s b. b.1) (theorems_in 0 portions) sts h,
    λ others o b. zip_unique (IsBuiltTheorem th) (one_statement th bare) (theorems_in 0 portions) others sts (built_from others o b) h,
  )

  pub no_statements : ((sts : List Theorem) → AllZip (IsBuiltTheorem th) (theorems_in 0 portions) sts → ⊥) → (sts : List Theorem) → AreStatementsOf portions th sts → AllByRecursion IsBareStatement sts → ⊥
  no_statements none sts h k = none sts (built_from sts h k)

-- the targets of a theorem, of its line `use` and of its first step
abbrev pub targets_of : {X : Type 0} (now : X → of_token.Token) → List X → List PlainArgument → List PlainArgument
targets_of now xs more = map name_alone (map token_view (map now xs)) ++ more

pub no_targets_at_all : {X : Type 0} (now : X → of_token.Token) (xs : List X) (more : List PlainArgument) → length xs ≡ 0 → more ≡ [] → targets_of now xs more ≡ []
no_targets_at_all now [] more e f = f
no_targets_at_all now (x ∷ xs) more e f = (let no : ⊥ = omega arith in absurd no)

pub some_target : {X : Type 0} (now : X → of_token.Token) (xs : List X) (more : List PlainArgument) → (length xs ≡ 0 → ⊥) → targets_of now xs more ≢ []
some_target now [] more h e = h refl
some_target now (x ∷ xs) more h e = (let never : name_alone (token_view (now x)) ∷ targets_of now xs more ≡ [] = e in cc)

pub none_assumed : {X : Type 0} (now : X → of_token.Token) (o : Option X) → o ≡ None → option_map token_view (option_map now o) ≡ None
none_assumed now o e = ap (λ p. option_map token_view (option_map now p)) e

pub if_found : {V E : Type 0} (A C : Type 0) (P Q : V → Type 0) → (A → C) → ((v : V) → P v → Q v) → (r : Result (Option V) E) → IfOk r (λ o. MatchOption o A P) → IfOk r (λ o. MatchOption o C Q)
if_found A C P Q f g (Ok None) h = f h
if_found A C P Q f g (Ok (Some v)) h = g v h
if_found A C P Q f g (Err e) h = tt
