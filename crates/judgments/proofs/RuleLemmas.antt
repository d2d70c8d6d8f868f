-- Readings over bare judgments: their scopes, and that there is one.
use Rattle.std.proofs.Common.{◌≡◌, ◌+◌, ℕ, zero, suc, List, [], ◌∷◌, refl, ap, ◌∙◌, sym, subst, arith, Some, None, slice_get}
use Rattle.std.specs.Prelude.{unwrap_or, option_map}
use Rattle.std.specs.List.{AllByRecursion}
use Rattle.binding_terms.specs.Numbered.{AllNumbered}
use Rattle.binding_terms.specs.Signature.{Signature}
use Rattle.binding_terms.specs.declared.grammar.Cat.{Cat}
use Rattle.scheme_terms.specs.Forms.{Names, KnownVariable}
use Rattle.scheme_terms.specs.declared.scheme.MetaDecl.{MetaDecl}
use Rattle.scheme_terms.specs.declared.scheme.Root.TheVariants.{Closed}
use Rattle.rule_schemes.specs.Reading.{Token, ReadingScope, ReadsJudgment, without_context, with_context, AreSpelledApart}
use Rattle.rule_schemes.specs.Rules.{JudgmentScheme, rule_root, root_of}
use Rattle.rule_schemes.specs.declared.rule.Judgment.{Judgment}
use Rattle.user_grammar.specs.Bare.{IsBareSignature}
use Rattle.judgments.specs.Bare.{IsBareJudgment}
use Rattle.judgments.specs.Collected.{IsCollected}
use Rattle.judgments.specs.Written.{ReadsOnlyAs}
use Rattle.judgments.proofs.BareForms.{reads_as}
use Rattle.binding_terms.proofs.Lists.{all_at, all_map}

-- a closed scope of metavariables
abbrev pub closed_names : List MetaDecl → Names
closed_names metas = record { root = Closed; metas = metas; knowns = [] }

pub bare_names : (cats : List Cat) (ts : List Token) (metas : List MetaDecl) → AllByRecursion (IsCollected cats ts) metas → AllByRecursion (λ (d : MetaDecl). d.params ≡ []) metas
bare_names cats ts metas h = all_map (IsCollected cats ts) (λ (d : MetaDecl). d.params ≡ []) (λ m i. i.params) metas h

pub numbered : (P : ℕ → Type 0) (xs : List MetaDecl) (n : ℕ) → ((m : ℕ) (d : MetaDecl) → slice_get xs m ≡ Some d → P (n + m)) → AllNumbered (λ m d. P m) n xs
numbered P [] n f = tt
numbered P (x ∷ xs) n f =
    let here : n + 0 ≡ n = omega arith in
    (subst P here (f zero x refl), numbered P xs (suc n) (λ m d e. (let there : n + suc m ≡ suc n + m = omega arith in subst P there (f (suc m) d e))))

-- a judgment that assumes no context stands over none
root_closed : (js : List Judgment) (k : ℕ) → AllByRecursion IsBareJudgment js
    → unwrap_or (option_map (λ (form : Judgment). root_of form.ctx) (slice_get js k)) Closed ≡ Closed
root_closed [] k h = refl
root_closed (j ∷ js) zero h = ap root_of (h.0).no_context
root_closed (j ∷ js) (suc k) h = root_closed js k h.1

pub one_reading : (sig : Signature) (js : List Judgment) (names : Names) (form : List Token) (x y : JudgmentScheme) → ReadsOnlyAs sig js names form x → ReadsOnlyAs sig js names form y → x ≡ y
one_reading sig js names form x y h k =
    let same = k.reading.no_other _ h.reading.reads in
    let written : Rattle.rule_schemes.specs.Said.a_judgment x ≡ Rattle.rule_schemes.specs.Said.a_judgment y = ap (λ (a : ℕ × Rattle.rule_schemes.specs.Said.Said). (a.1).written) same in
    cc

module _ (sig : Signature) (js : List Judgment) (bare : IsBareSignature sig) (apart : AreSpelledApart sig) (closed : AllByRecursion IsBareJudgment js) where
  -- what reads stands over no context
  context_of : {scope : ReadingScope} {ms : List MetaDecl} {ts : List Token} {j : JudgmentScheme} {ks : List KnownVariable} → ReadsJudgment sig js scope ms ts j ks
      → j.context ≡ record { root = Closed; entries = [] }
  context_of (without_context g c r) = refl
  context_of (with_context {k = k} {j = j} {id = id} g c once ctx r) = (let never : None ≡ Some id = sym (all_at IsBareJudgment js k j closed g).no_context ∙ c in cc)

  pub no_context_read : (names : Names) (form : List Token) (j : JudgmentScheme) → ReadsOnlyAs sig js names form j → j.context ≡ record { root = Closed; entries = [] }
  no_context_read names form j h = context_of (reads_as sig js bare closed names form j h)

  pub over_closed : (k : ℕ) → rule_root (record { sig = sig; judgments = js; rules = [] }) k ≡ Closed
  over_closed k = root_closed js k closed
