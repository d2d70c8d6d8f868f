-- Over a theory without contexts a rule has a good conclusion, each premise may stand in it, and it is no assumption rule.
use Rattle.std.proofs.Common.{◌≡◌, ℕ, zero, suc, List, [], ◌∷◌, ◌∙◌, inl, inr, refl, subst, sym, true≢false}
use Rattle.std.specs.Prelude.{Option, Some, None, true, false, slice_get, MatchOption, count_by, ◌==◌}
use Rattle.std.specs.List.{AllByRecursion}
use Rattle.binding_terms.specs.Signature.{Signature, IsContext, slots}
use Rattle.binding_terms.specs.declared.grammar.Cat.{Cat}
use Rattle.binding_terms.specs.declared.grammar.CatId.{CatId}
use Rattle.scheme_terms.specs.Forms.{SchemeEntry, SchemeContext}
use Rattle.scheme_terms.specs.SchemeScope.{IsSchemeContext}
use Rattle.scheme_terms.specs.declared.scheme.Root.{Root}
use Rattle.scheme_terms.specs.declared.scheme.Root.TheVariants.{Closed, Empty, Whole}
use Rattle.rule_schemes.specs.Rules.{JudgmentScheme, Rule, Theory, JudgmentFits, IsRootOf, IsBareName, HasForms, HasGoodConclusion, MayStand, IsSystemSoFar, IsSystem, rule_names}
use Rattle.rule_schemes.specs.Plain.{HasNoContextCategory, IsPlainSignature, IsPlainTheory, IsPlainSystem}
use Rattle.rule_schemes.specs.Refused.{IsFirstMisplaced}
use Rattle.binding_terms.proofs.Lists.{all_found, all_weaker}

-- a system without contexts and binding
pub plain_system : {th : Theory} → IsSystemSoFar th → IsPlainTheory th → IsPlainSystem th
plain_system so_far plain = record { so_far = so_far; plain = plain }

-- no category is one of contexts
pub no_context : (cats : List Cat) (c : ℕ) → AllByRecursion (λ cat. cat.context ≡ false) cats
    → MatchOption (slice_get cats c) ⊥ (λ cat. cat.context ≡ true) → ⊥
no_context [] c all h = h
no_context (cat ∷ cats) zero all h = absurd (true≢false (sym h ∙ all.0))
no_context (cat ∷ cats) (suc c) all h = no_context cats c all.1 h

none_assumed : (sig : Signature) (Rest : CatId → Type 0) (ctx : Option CatId) → HasNoContextCategory sig
    → MatchOption ctx (Unit {0}) (λ c. IsContext sig c.0 × Rest c) → ctx ≡ None
none_assumed sig Rest None none h = refl
none_assumed sig Rest (Some c) none h = absurd (no_context sig.cats c.0 none h.0)

pub no_context_assumed : (sig : Signature) (Rest : CatId → Type 0) (ctx : Option CatId) → IsPlainSignature sig
    → MatchOption ctx (Unit {0}) (λ c. IsContext sig c.0 × Rest c) → ctx ≡ None
no_context_assumed sig Rest ctx plain = none_assumed sig Rest ctx plain.no_context

-- what a form of a judgment without a context has
pub record IsClosedForm (context : SchemeContext) : Type 0 where
  pub root : context.root ≡ Closed
  pub entries : context.entries ≡ []

pub is_closed : (root : Root) → IsRootOf None root → root ≡ Closed
is_closed Closed h = refl
is_closed (Empty c) h = absurd h
is_closed (Whole c) h = absurd h

pub closed_form : (th : Theory) (r : Rule) → HasNoContextCategory th.sig → AllByRecursion (JudgmentFits th.sig) th.judgments → HasForms th r
    → IsClosedForm r.conclusion.context
closed_form th r no_contexts fit forms =
    let form = all_found th.judgments r.conclusion.judgment fit forms.conclusion in
    let none : form.0.ctx ≡ None = none_assumed th.sig (λ c. count_by (λ slot. slot.cat == c.0) (slots form.0.items) ≡ 1) form.0.ctx no_contexts form.1.assumed in
    let root : r.conclusion.context.root ≡ Closed =
    is_closed r.conclusion.context.root (subst (λ (ctx : Option CatId). IsRootOf ctx r.conclusion.context.root) none form.2.0) in
    record {
      root = root;
      entries = subst (λ (x : Root). IsSchemeContext th.sig (rule_names r) (record { root = x; entries = r.conclusion.context.entries })) root form.2.1;
    }

pub closed_good : (r : Rule) → IsClosedForm r.conclusion.context → HasGoodConclusion r
closed_good r c =
    inl (subst (λ (x : Root). IsBareName x r.conclusion.context.entries) (sym c.root)
    (subst (λ (es : List SchemeEntry). IsBareName Closed es) (sym c.entries) tt))

may_stand : (th : Theory) (root form : Root) (j : ℕ) → root ≡ Closed → MayStand th root form j
may_stand th root form j e = subst (λ (x : Root). MayStand th x form j) (sym e) tt

pub closed_placed : (th : Theory) (root : Root) (ps : List JudgmentScheme) → root ≡ Closed
    → AllByRecursion (λ p. MayStand th root p.context.root p.judgment) ps
closed_placed th root [] e = tt
closed_placed th root (p ∷ ps) e = (may_stand th root p.context.root p.judgment e, closed_placed th root ps e)

pub closed_not_misplaced : (th : Theory) (r : Rule) (ps : List JudgmentScheme) (j : ℕ) → r.conclusion.context.root ≡ Closed
    → IsFirstMisplaced th r ps j → ⊥
closed_not_misplaced th r [] j e h = h
closed_not_misplaced th r (p ∷ ps) j e (inl h) = h.1 (may_stand th r.conclusion.context.root p.context.root p.judgment e)
closed_not_misplaced th r (p ∷ ps) j e (inr h) = closed_not_misplaced th r ps j e h.1

-- a system without contexts is whole
pub IsPlainSystem-whole : (th : Theory) → IsPlainSystem th → IsSystem th
IsPlainSystem-whole th system =
    record {
      so_far = system.so_far;
      closed_ok = all_weaker
          (λ r fits. closed_placed th r.conclusion.context.root r.premises (closed_form th r system.plain.sig.no_context system.so_far.judgments fits.forms).root)
          th.rules system.so_far.rules;
    }
