-- An instance that gives the inputs, restricted to the names in them.
use Rattle.std.proofs.Common.{◌↔◌, IsTrue, is_some, ◌≡◌, ℕ, zero, suc, ◌+◌, ◌<◌, List, [], ◌∷◌, length, Option, Some, None, slice_get, unwrap_or, inl, inr, refl, ap, ◌∙◌, sym, subst, arith}
use Rattle.std.specs.List.{AllByRecursion, AllZip}
use Rattle.binding_terms.specs.Numbered.{AnyByRecursion, AllNumbered}
use Rattle.binding_terms.specs.Tree.{Tree, var}
use Rattle.scheme_terms.specs.Forms.{Names, Instance, ContextValue}
use Rattle.scheme_terms.specs.Context.{IsValue}
use Rattle.scheme_terms.specs.Instance.{value_of, FitsScope, IsMetaValue, IsKnownPlace}
use Rattle.scheme_terms.specs.declared.scheme.MetaDecl.{MetaDecl}
use Rattle.pattern_unify.proofs.Places.{numbered, numbered_at}
use Rattle.rule_schemes.specs.Plain.{IsPlainSystem}
use Rattle.rule_schemes.specs.Rules.{Theory}
use Rattle.rule_schemes.specs.Statement.{StatementInput, given, syntax_input, Theorem, InputTree, derived, term, IsGiven, given_value, FitsFor, IsInstantiation, Instantiates, IsOfInputs, OccursInInput}
use Rattle.core_proofs.specs.Plain.{IsPlainForm}
use Rattle.proof_trees.specs.Right.{IsProofScope}
use Rattle.core_proofs.specs.Proof.{given_judgments}
use Rattle.core_proofs.specs.Provable.{IsProvable, IsOfDerivation}
use Rattle.core_proofs.proofs.Keeping.{plain_scope, plain_beginning}
use Rattle.theorem_runner.specs.Instances.{Gives, IsOnlyInstance}
use Rattle.theorem_runner.proofs.PlainInstances.{names_below, same_judgment}
use Rattle.binding_terms.proofs.Lists.{numbered_front}

abbrev values_of_names : Instance → ℕ → List MetaDecl → List (Option Tree)
values_of_names inst n [] = []
values_of_names inst n (decl ∷ decls) = given_value inst n ∷ values_of_names inst (suc n) decls

abbrev pub restricted : Instance → Names → Instance
restricted inst scope = record { metas = values_of_names inst 0 scope.metas; knowns = []; root = inst.root }

value_at : (inst : Instance) (n : ℕ) (decls : List MetaDecl) (k : ℕ) → k < length decls → slice_get (values_of_names inst n decls) k ≡ Some (given_value inst (n + k))
value_at inst n [] k h = absurd (let no : ⊥ = omega (arith, h) in no)
value_at inst n (decl ∷ decls) zero h = ap (λ m. Some (given_value inst m)) (let e : n ≡ n + 0 = omega arith in e)
value_at inst n (decl ∷ decls) (suc k) h =
    value_at inst (suc n) decls k (omega (arith, h)) ∙ ap (λ m. Some (given_value inst m)) (let e : suc n + k ≡ n + suc k = omega arith in e)

pub same_given : (inst : Instance) (scope : Names) (m : ℕ) → m < length scope.metas → given_value (restricted inst scope) m ≡ given_value inst m
same_given inst scope m h =
    ap (λ o. unwrap_or o None) (value_at inst 0 scope.metas m h) ∙ ap (given_value inst) (let e : 0 + m ≡ m = omega arith in e)

module _ (th : Theory) (system : IsPlainSystem th) (st : Theorem) (provable : IsProvable th st) (scope : Names) (is : IsProofScope st scope) where
  pub forms_plain : AllByRecursion (IsPlainForm th scope) (given_judgments st.inputs)
  forms_plain = (plain_beginning th system st provable scope is).forms

  occurs_in_scope : (inputs : List StatementInput) → AllByRecursion IsOfDerivation inputs → AllByRecursion (IsPlainForm th scope) (given_judgments inputs) →
      (m : ℕ) → AnyByRecursion (OccursInInput m) inputs → m < length scope.metas
  occurs_in_scope [] ds forms m h = absurd h
  occurs_in_scope (given j ∷ inputs) ds forms m (inl h) = names_below th system scope (plain_scope th system st provable scope is) j forms.0 m h
  occurs_in_scope (given j ∷ inputs) ds forms m (inr h) = occurs_in_scope inputs ds.1 forms.1 m h
  occurs_in_scope (syntax_input n ∷ inputs) ds forms m h = absurd ds.0

  -- a name that stands in an input is one of the scope
  pub of_inputs_below : (m : ℕ) → IsOfInputs st m → m < length scope.metas
  of_inputs_below m h = occurs_in_scope st.inputs provable.derivations forms_plain m h

  module _ (v : ContextValue) (xs : List InputTree) (inst : Instance) (gives : IsInstantiation th st v inst xs) where
    abbrev r : Instance
    r = restricted inst scope

    zip_values : (n : ℕ) (decls : List MetaDecl) → AllNumbered (λ m decl. IsOfInputs st m) n decls →
        AllNumbered (λ m decl. IsOfInputs st m → IsMetaValue th.sig inst decl (given_value inst m)) n decls →
        AllZip (IsMetaValue th.sig r) decls (values_of_names inst n decls)
    zip_values n [] of fits = tt
    zip_values n (decl ∷ decls) of fits = (fits.0 of.0, zip_values (suc n) decls of.1 fits.1)

    restricted_fits : FitsScope th.sig scope r
    restricted_fits = record {
      root = subst (λ root. IsValue th.sig root inst.root) (sym is.root) gives.fits.root;
      metas = zip_values 0 scope.metas is.of_inputs
          (numbered_front (λ m decl. IsOfInputs st m → IsMetaValue th.sig inst decl (given_value inst m)) 0 scope.metas is.goal_names
          (subst (λ (ms : List MetaDecl). AllNumbered (λ m decl. IsOfInputs st m → IsMetaValue th.sig inst decl (given_value inst m)) 0 ms) is.split gives.fits.metas));
      knowns = subst (λ ks. AllZip (IsKnownPlace r) ks []) (sym is.knowns) tt;
    }

    agrees : (m : ℕ) → m < length scope.metas → value_of inst m ≡ value_of r m
    agrees m h = ap (λ o. unwrap_or o (var 0)) (sym (same_given inst scope m h))

    still_given : (inputs : List StatementInput) (ys : List InputTree) → AllByRecursion IsOfDerivation inputs → AllByRecursion (IsPlainForm th scope) (given_judgments inputs) →
        AllZip (IsGiven th inst) inputs ys → AllZip (IsGiven th r) inputs ys
    still_given [] [] ds forms h = tt
    still_given [] (y ∷ ys) ds forms h = absurd h
    still_given (i ∷ inputs) [] ds forms h = absurd h
    still_given (given j ∷ inputs) (derived d ∷ ys) ds forms h =
        let same = same_judgment th system scope (plain_scope th system st provable scope is) inst r refl agrees j forms.0 in
        ((h.0.0, record { same = sym same ∙ h.0.1.same; closed = h.0.1.closed }), still_given inputs ys ds.1 forms.1 h.1)
    still_given (given j ∷ inputs) (term t ∷ ys) ds forms h = absurd h.0
    still_given (syntax_input m ∷ inputs) (y ∷ ys) ds forms h = absurd ds.0

    still_fits : FitsFor th st r (IsOfInputs st)
    still_fits = record {
      root = gives.fits.root;
      metas = numbered (λ m decl. IsOfInputs st m → IsMetaValue th.sig r decl (given_value r m)) 0 st.scope.metas
          (λ k decl here of. subst (λ o. IsMetaValue th.sig inst decl o) (sym (same_given inst scope (0 + k) (of_inputs_below (0 + k) of)))
          (numbered_at (λ m decl. IsOfInputs st m → IsMetaValue th.sig inst decl (given_value inst m)) 0 st.scope.metas k decl gives.fits.metas here of));
    }

    -- it gives the inputs too, and is an instance of the proof's scope
    pub restricted_gives : Gives th st scope v xs r
    restricted_gives =
        (restricted_fits, record { value = gives.value; fits = still_fits; inputs = still_given st.inputs xs provable.derivations forms_plain gives.inputs })

-- inputs instantiate the statement exactly where one instance of the scope gives them
pub instantiated : (th : Theory) (system : IsPlainSystem th) (st : Theorem) (provable : IsProvable th st) (scope : Names) (is : IsProofScope st scope)
    (v : ContextValue) (xs : List InputTree) (o : Option Instance) → IsOnlyInstance th st scope v xs o → IsTrue (is_some o) ↔ Instantiates th st v xs
instantiated th system st provable scope is v xs None none = (
  λ h. let no : ⊥ = cc in absurd no,
  λ inputs. absurd (none (restricted inputs.0 scope) (restricted_gives th system st provable scope is v xs inputs.0 inputs.1)),
)
instantiated th system st provable scope is v xs (Some inst) one = (λ h. (inst, one.0.1), λ inputs. refl)
