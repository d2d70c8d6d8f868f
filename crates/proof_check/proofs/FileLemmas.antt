-- The steps of a file, part by part.
use Rattle.std.proofs.Common.{◌≡◌, ◌≢◌, ℕ, List, [], ◌∷◌, ◌++◌, Option, Some, None, Bor, map, option_map, slice_get, refl, sym, ap, subst, ◌∙◌}
use Rattle.std.specs.List.{AllByRecursion}
use Rattle.std.specs.Option.{option_copied}
use Rattle.std.proofs.lemmas.Option.{slice_get-map}
use Rattle.rule_schemes.specs.View.{statement}
use Rattle.rule_schemes.specs.declared.rule.Statement.{Statement}
use Rattle.scheme_terms.specs.Forms.{Names}
use Rattle.scheme_terms.specs.declared.scheme.MetaDecl.{MetaDecl}
use Rattle.rule_schemes.specs.Rules.{Theory}
use Rattle.rule_schemes.specs.Reading.{ReadingScope}
use Rattle.rule_schemes.specs.Said.{want_judgment}
use Rattle.rule_schemes.specs.Statement.{Theorem}
use Rattle.term_reader.specs.Names.{NamesApart}
use Rattle.notation_parser.specs.Plain.{HasNoVariablesNorParameters, IsPlain}
use Rattle.core_proofs.specs.Step.{Step, begin_theorem}
use Rattle.proof_trees.specs.Right.{IsProofScope}
use Rattle.judgments.specs.Written.{settled}
use Rattle.outline_reader.specs.declared.parts.Portion.TheVariants as portion
use Rattle.outline_reader.specs.Plain.{PlainPortion, terminals, syntax_word, category, judgment_of, rule_of, theorem_of, step_of, inversion, case_rule, case_term, end_line}
use Rattle.proof_check.specs.Finding.{Finds, Begins}
use Rattle.proof_check.specs.Plain.{ArePlainStatements}
use Rattle.proof_check.specs.Steps.{HoldsNoProof, BeginsProof, AreStepsFrom, AreProofSteps}
use Rattle.binding_terms.proofs.Lists.{all_at, all_front}

apart_front : (xs ys : List MetaDecl) → NamesApart (xs ++ ys) → NamesApart xs
apart_front [] ys apart = tt
apart_front (x ∷ xs) ys apart = (all_front (λ (n : MetaDecl). x.name ≢ n.name) xs ys apart.0, apart_front xs ys apart.1)

-- what is read in the scope of a proof is plain
pub plain_reading : (th : Theory) (sts : List Theorem) (k : ℕ) (st : Theorem) (scope : Names) (reading : ReadingScope) → ArePlainStatements th sts → slice_get sts k ≡ Some st → IsProofScope st scope →
    reading ≡ settled scope → IsPlain th.sig th.judgments reading want_judgment
plain_reading th sts k st scope reading plain here is same =
    let binds : HasNoVariablesNorParameters th.sig st.scope.metas = all_at (λ (st : Theorem). HasNoVariablesNorParameters th.sig st.scope.metas) sts k st plain.nothing_binds here in
    let settled_plain : IsPlain th.sig th.judgments (settled scope) want_judgment = record {
      nothing_binds = record {
        variables = binds.variables;
        names = apart_front scope.metas is.goal_names (subst NamesApart is.split binds.names);
        parameters = all_front (λ (m : MetaDecl). m.params ≡ []) scope.metas is.goal_names (subst (AllByRecursion (λ (m : MetaDecl). m.params ≡ [])) is.split binds.parameters);
      };
      judgments = plain.judgments;
      knowns = is.knowns;
      vars = refl;
      fresh = refl;
      no_context = tt;
    } in
    subst (λ (r : ReadingScope). IsPlain th.sig th.judgments r want_judgment) (sym same) settled_plain

-- the proof of a theorem begins in the one scope
pub begin_turn : (sts : List Theorem) (k : ℕ) (Follows : Theorem → Names → List Step → Type 0) (st : Theorem) (scope : Names) → slice_get sts k ≡ Some st → Finds (IsProofScope st) (Some scope) →
    Begins (BeginsProof sts k Follows) (Follows st scope) (begin_theorem k ∷ [])
begin_turn sts k Follows st scope here f = record {
  sound = λ rest h. (st, scope, rest, here, f.0, refl, h);
  complete = λ all h.
      let found : Some h.0 ≡ Some st = sym h.3 ∙ here in
      let same : h.0 ≡ st = cc in
      let its : h.1 ≡ scope = f.1 h.1 (subst (λ (s : Theorem). IsProofScope s h.1) same h.4) in
      (h.2, h.5, subst (λ (s : Theorem). Follows s scope h.2) same (subst (λ (n : Names). Follows h.0 n h.2) its h.6));
}

pub no_statement : (sts : List Theorem) (k : ℕ) (Follows : Theorem → Names → List Step → Type 0) → slice_get sts k ≡ None → (all : List Step) → BeginsProof sts k Follows all → ⊥
no_statement sts k Follows none all h = (let found : Some h.0 ≡ None = sym h.3 ∙ none in absurd cc)

pub no_proof_scope : (sts : List Theorem) (k : ℕ) (Follows : Theorem → Names → List Step → Type 0) (st : Theorem) → slice_get sts k ≡ Some st → Finds (IsProofScope st) None →
    (all : List Step) → BeginsProof sts k Follows all → ⊥
no_proof_scope sts k Follows st here f all h =
    let found : Some h.0 ≡ Some st = sym h.3 ∙ here in
    let same : h.0 ≡ st = cc in
    f h.1 (subst (λ (s : Theorem). IsProofScope s h.1) same h.4)

-- a portion that holds no proof stands for no step
pub other_turn : (th : Theory) (sts : List Theorem) (k : ℕ) (p : PlainPortion) (portions : List PlainPortion) → HoldsNoProof p →
    Begins (AreStepsFrom th sts k (p ∷ portions)) (AreStepsFrom th sts k portions) []
other_turn th sts k (terminals first items) portions none = record { sound = λ rest h. (tt, h); complete = λ all h. (all, refl, h.1) }
other_turn th sts k (syntax_word first) portions none = record { sound = λ rest h. (tt, h); complete = λ all h. (all, refl, h.1) }
other_turn th sts k (category name mark productions) portions none = record { sound = λ rest h. (tt, h); complete = λ all h. (all, refl, h.1) }
other_turn th sts k (judgment_of first name form assumes) portions none = record { sound = λ rest h. (tt, h); complete = λ all h. (all, refl, h.1) }
other_turn th sts k (rule_of premises name conclusion) portions none = record { sound = λ rest h. (tt, h); complete = λ all h. (all, refl, h.1) }
other_turn th sts k (theorem_of first joined kind name assumes inputs outputs targets) portions none = absurd none
other_turn th sts k (step_of first names forms why) portions none = absurd none
other_turn th sts k (inversion first subject premises name conclusion) portions none = absurd none
other_turn th sts k (case_rule first premises name conclusion) portions none = absurd none
other_turn th sts k (case_term first form assumes) portions none = absurd none
other_turn th sts k (end_line first part) portions none = absurd none

-- the statement that stands at a place
pub statement_at : (sts : List Statement) (k : ℕ) (o : Option (Bor Statement)) (s : Bor Statement) → option_copied o ≡ slice_get sts k → o ≡ Some s →
    slice_get (map statement sts) k ≡ Some (statement s.now)
statement_at sts k o s e is = slice_get-map statement sts k ∙ ap (option_map statement) (sym e ∙ ap option_copied is)

pub no_statement_at : (sts : List Statement) (k : ℕ) (o : Option (Bor Statement)) → option_copied o ≡ slice_get sts k → o ≡ None → slice_get (map statement sts) k ≡ None
no_statement_at sts k o e is = slice_get-map statement sts k ∙ ap (option_map statement) (sym e ∙ ap option_copied is)

-- the same, with the scope and the names in scope as they are kept
pub begin_kept : (th : Theory) (sts : List Theorem) (k : ℕ) (given named : List (List ℕ)) (portions : List PlainPortion) (st : Theorem) (scope kept : Names) → slice_get sts k ≡ Some st →
    Finds (IsProofScope st) (Some scope) → kept ≡ scope → named ≡ given →
    Begins (BeginsProof sts k (λ st scope. AreProofSteps th sts k st scope given None portions)) (AreProofSteps th sts k st kept named None portions) (begin_theorem k ∷ [])
begin_kept th sts k given named portions st scope kept here f same all =
    let follows = λ (st : Theorem) (scope : Names). AreProofSteps th sts k st scope given None portions in
    subst (λ (n : Names). Begins (BeginsProof sts k follows) (AreProofSteps th sts k st n named None portions) (begin_theorem k ∷ [])) (sym same)
    (subst (λ (ns : List (List ℕ)). Begins (BeginsProof sts k follows) (AreProofSteps th sts k st scope ns None portions) (begin_theorem k ∷ [])) (sym all)
    (begin_turn sts k follows st scope here f))
