-- The readings of what is wanted, each way that it may be.
use Rattle.std.proofs.Common.{◌≡◌, ℕ, List, ◌++◌, map, refl, ap, sym, subst}
use Rattle.binding_terms.specs.Signature.{Signature}
use Rattle.scheme_terms.specs.SchemeTree.{SchemeTree}
use Rattle.scheme_terms.specs.Forms.{KnownVariable}
use Rattle.scheme_terms.specs.declared.scheme.MetaDecl.{MetaDecl}
use Rattle.rule_schemes.specs.Reading.{Token, ReadingScope, known_words}
use Rattle.rule_schemes.specs.Said.{Want, want_term, want_judgment, want_context, Written, a_term, ReadsWanted, reads_term, reads_judgment, reads_context, Way, IsBefore, way_of_wanted}
use Rattle.rule_schemes.specs.declared.rule.Judgment.{Judgment}
use Rattle.term_reader.specs.Firsts.{AreFirst}
use Rattle.term_reader.specs.Ordered.{ReadsTermAt}
use Rattle.term_reader.specs.Splitting.{IsMapped}
use Rattle.term_reader.proofs.Finding.{AreFirst-same, AreFirst-map}
use Rattle.notation_parser.specs.Forms.{IsTermRead, written_term, IsContextRead, IsReadAsAny}
use Rattle.notation_parser.specs.Ordered.{WrittenForm, ReadsWantedAt}

-- terms, as what they write
pub terms_read : (sig : Signature) (scope : ReadingScope) (metas : List MetaDecl) (c : ℕ) (ts : List Token) (ss : List SchemeTree)
    → AreFirst IsBefore (ReadsTermAt sig metas (scope.vars ++ known_words sig 0 scope.names.knowns) c ts) ss
    → AreFirst IsBefore (IsTermRead sig scope metas c ts) (map written_term ss)
terms_read sig scope metas c ts ss f =
    AreFirst-same IsBefore _ (IsTermRead sig scope metas c ts) (map written_term ss) (λ w x. (there w x, λ h. (w, h.0, refl, h.1, h.2)))
    (AreFirst-map IsBefore IsBefore (λ w. w) written_term (ReadsTermAt sig metas (scope.vars ++ known_words sig 0 scope.names.knowns) c ts) ss (λ k l b. b)
    (λ k l a b r q e. (let form : a_term a ≡ a_term b = ap (λ (x : WrittenForm). x.0) e in cc)) f)
  where
    there : (w : Way) (x : WrittenForm) → IsMapped (λ w. w) written_term (ReadsTermAt sig metas (scope.vars ++ known_words sig 0 scope.names.knowns) c ts) w x
        → IsTermRead sig scope metas c ts w x
    there w x h = (h.1, h.3, subst (λ v. ReadsTermAt sig metas (scope.vars ++ known_words sig 0 scope.names.knowns) c ts v h.1) (sym h.2) h.4)

module _ (sig : Signature) (js : List Judgment) (scope : ReadingScope) (metas : List MetaDecl) (ts : List Token) where
  -- what a reading of what is wanted is, as a term, a judgment or a context
  abbrev IsOf : Want → Way → WrittenForm → Type 0
  IsOf (want_term c) w x = IsTermRead sig scope metas c ts w x
  IsOf want_judgment w x = IsReadAsAny sig js scope metas ts w x
  IsOf (want_context c) w x = IsContextRead sig scope metas (record { 0 = c }) ts w x

  wanted_of : {want : Want} {x : Written} {ks : List KnownVariable} → (r : ReadsWanted sig js scope metas ts want x ks) → IsOf want (way_of_wanted r) (x, ks)
  wanted_of (reads_term {s = s} r) = (s, refl, (r, refl))
  wanted_of (reads_judgment {j = j} {ks = ks} r) = (j.judgment, (j, ks, refl, refl, (r, refl)))
  wanted_of (reads_context {ctx = ctx} {vars = vars} {ks = ks} r) = ((ctx, ks), vars, refl, (r, refl))

  of_wanted : (want : Want) (w : Way) (x : WrittenForm) → IsOf want w x → ReadsWantedAt sig js scope metas want ts w x
  of_wanted (want_term c) w x h = subst (ReadsWantedAt sig js scope metas (want_term c) ts w) (sym h.1) (reads_term (h.2).0, (h.2).1)
  of_wanted want_judgment w x h = let r = h.1.4 in subst (ReadsWantedAt sig js scope metas want_judgment ts w) (sym h.1.2) (reads_judgment r.0, r.1)
  of_wanted (want_context c) w x h = subst (ReadsWantedAt sig js scope metas (want_context c) ts w) (sym h.2) (reads_context (h.3).0, (h.3).1)

  pub wanted_read : (want : Want) (xs : List WrittenForm) → AreFirst IsBefore (IsOf want) xs → AreFirst IsBefore (ReadsWantedAt sig js scope metas want ts) xs
  wanted_read want xs f =
      AreFirst-same IsBefore (IsOf want) (ReadsWantedAt sig js scope metas want ts) xs
      (λ w x. (of_wanted want w x, λ r. subst (λ v. IsOf want v x) r.1 (wanted_of r.0))) f
