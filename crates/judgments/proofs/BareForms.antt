-- The one readings of forms over bare judgments: their brackets, their scopes and their names.
use Rattle.std.proofs.Common.{◌≡◌, ℕ, zero, suc, List, [], ◌∷◌, length, map, inr, refl, ap, ◌∙◌, sym, subst, arith, IsTrue, false, Some, None, slice_get, MatchOption, append-nil}
use Rattle.std.specs.Prelude.{not}
use Rattle.std.specs.List.{AllByRecursion, AllZip}
use Rattle.binding_terms.specs.Signature.{Signature, slots}
use Rattle.binding_terms.specs.declared.grammar.Cat.{Cat}
use Rattle.binding_terms.specs.declared.grammar.CatId.{CatId}
use Rattle.scheme_terms.specs.Forms.{Names}
use Rattle.scheme_terms.specs.SchemeScope.{AreSchemes}
use Rattle.scheme_terms.specs.declared.scheme.MetaDecl.{MetaDecl}
use Rattle.scheme_terms.specs.declared.scheme.Root.TheVariants.{Closed}
use Rattle.rule_schemes.specs.Reading.{Token, IsSpelling, ReadingScope, known_words, ReadsJudgment, without_context, with_context, IsCategoryWord}
use Rattle.rule_schemes.specs.Rules.{JudgmentScheme, Theory, IsJudgmentScheme, IsRootOf, argument_slots}
use Rattle.rule_schemes.specs.Said.{Want, want_judgment, Written, a_judgment, ReadsWanted, reads_term, reads_judgment, reads_context}
use Rattle.rule_schemes.specs.Statement.{OccursInJudgment}
use Rattle.rule_schemes.specs.declared.rule.Judgment.{Judgment}
use Rattle.scheme_terms.specs.Forms.{KnownVariable, SchemeEntry}
use Rattle.user_grammar.specs.Bare.{IsBareSignature}
use Rattle.judgments.specs.Bare.{IsBareJudgment}
use Rattle.judgments.specs.Collected.{IsCollected, AreGathered}
use Rattle.judgments.specs.Laws.{AreBareNames, ReadingsAreInScope}
use Rattle.judgments.specs.Named.{IsNamed, AreNamesOf}
use Rattle.judgments.specs.Written.{settled, ReadsOnlyAs}
use Rattle.judgments.proofs.ReadingLemmas.{form_tokens, form_schemes}
use Rattle.judgments.proofs.WordsOfForms.{joined, word_joined, joined_word, HasNoBracket, has_no_parameters, parameters_none}
use Rattle.binding_terms.proofs.Lists.{all_at, all_map}

the_want : (want : Want) → slice_get (want_judgment ∷ []) 0 ≡ Some want → want ≡ want_judgment
the_want want e = (let same : Some want_judgment ≡ Some want = e in cc)

-- a form of a judgment that is wanted
wanted_judgment : {sig : Signature} {js : List Judgment} {scope : ReadingScope} {ms : List MetaDecl} {ts : List Token} {v : Want} {x : Written} {ks : List KnownVariable}
    → ReadsWanted sig js scope ms ts v x ks → v ≡ want_judgment → (j : JudgmentScheme) → x ≡ a_judgment j → ReadsJudgment sig js scope ms ts j ks
wanted_judgment (reads_term r) e j f = cc
wanted_judgment (reads_context {c = c} r) e j f = cc
wanted_judgment {sig = sig} {js = js} {scope = scope} {ms = ms} {ts = ts} {ks = ks} (reads_judgment {j = i} r) e j f =
    (let same : i ≡ j = cc in subst (λ (k : JudgmentScheme). ReadsJudgment sig js scope ms ts k ks) same r)

module _ (sig : Signature) (js : List Judgment) (bare : IsBareSignature sig) (closed : AllByRecursion IsBareJudgment js) where
  judgment_tokens : {scope : ReadingScope} {ms : List MetaDecl} {ts : List Token} {j : JudgmentScheme} {ks : List KnownVariable} → ReadsJudgment sig js scope ms ts j ks
      → scope.names.knowns ≡ [] → AllByRecursion (λ (m : MetaDecl). m.params ≡ []) ms → HasNoBracket ts
  judgment_tokens {ms = ms} (without_context g c r) kn plain =
      form_tokens sig ms bare plain r (ap (known_words sig 0) kn) refl
  judgment_tokens (with_context {k = k} {j = j} {id = id} g c once ctx r) kn plain =
      (let never : None ≡ Some id = sym (all_at IsBareJudgment js k j closed g).no_context ∙ c in cc)

  -- the names have the metavariables that stand in the judgment
  abbrev pub HasUsed : List MetaDecl → Names → JudgmentScheme → Type 0
  HasUsed ms names j = (m : ℕ) (decl : MetaDecl) → OccursInJudgment m j → slice_get ms m ≡ Some decl → slice_get names.metas m ≡ Some decl

  judgment_in_scope : (th : Theory) (names : Names) → th.sig ≡ sig → th.judgments ≡ js → {scope : ReadingScope} {ms : List MetaDecl} {ts : List Token} {j : JudgmentScheme} {ks : List KnownVariable}
      → ReadsJudgment sig js scope ms ts j ks → scope.names.knowns ≡ [] → AllByRecursion (λ (m : MetaDecl). m.params ≡ []) ms → HasUsed ms names j → IsJudgmentScheme th names j
  judgment_in_scope th names es ej {ms = ms} {ts = ts} (without_context {k = k} {j = j} {ss = ss} g c r) kn plain has =
      let schemes = form_schemes sig ms bare plain names r (ap (known_words sig 0) kn) refl (λ m d o. has m d (inr o)) in
      let found : slice_get th.judgments k ≡ Some j = ap (λ l. slice_get l k) ej ∙ g in
      subst (λ found. MatchOption found ⊥ (λ form. IsRootOf form.ctx Closed × (◌≡◌ {A = List SchemeEntry} [] []) × AreSchemes th.sig names [] (argument_slots form.ctx (slots form.items)) ss)) (sym found)
      (subst (λ o. IsRootOf o Closed × (◌≡◌ {A = List SchemeEntry} [] []) × AreSchemes th.sig names [] (argument_slots o (slots j.items)) ss) (sym c)
      (tt, refl, subst (λ (s : Signature). AreSchemes s names [] (slots j.items) ss) (sym es) schemes))
  judgment_in_scope th names es ej (with_context {k = k} {j = j} {id = id} g c once ctx r) kn plain has =
      (let never : None ≡ Some id = sym (all_at IsBareJudgment js k j closed g).no_context ∙ c in cc)

  -- the judgment that a form reads as
  pub reads_as : (names : Names) (form : List Token) (j : JudgmentScheme) → ReadsOnlyAs sig js names form j → ReadsJudgment sig js (settled names) names.metas form j []
  reads_as names form j h =
      let read = h.reading.reads in
      subst (λ (ms : List MetaDecl). ReadsJudgment sig js (settled names) ms form j []) (append-nil names.metas)
      (wanted_judgment read.reads.form (the_want read.want read.here) j refl)

  -- it is a judgment over each scope that has the metavariables that stand in it
  pub form_in_scope : (th : Theory) → th.sig ≡ sig → th.judgments ≡ js → (names over : Names) → AreBareNames names → (form : List Token) (j : JudgmentScheme) → ReadsOnlyAs sig js names form j
      → HasUsed names.metas over j → IsJudgmentScheme th over j
  form_in_scope th es ej names over plain form j h has = judgment_in_scope th over es ej (reads_as names form j h) plain.knowns plain.parameters has

  pub no_brackets_read : (names : Names) → AreBareNames names → (forms : List (List Token)) (zs : List JudgmentScheme) → AllZip (ReadsOnlyAs sig js names) forms zs → AllByRecursion HasNoBracket forms
  no_brackets_read names plain [] [] h = tt
  no_brackets_read names plain [] (z ∷ zs) h = absurd h
  no_brackets_read names plain (form ∷ forms) [] h = absurd h
  no_brackets_read names plain (form ∷ forms) (z ∷ zs) h =
      (judgment_tokens (reads_as names form z h.0) plain.knowns plain.parameters, no_brackets_read names plain forms zs h.1)

-- a spelling of a category is plain, where none is of contexts
pub plain_spelling : (cats : List Cat) (c : ℕ) (w : List ℕ) → AllByRecursion (λ (cat : Cat). cat.context ≡ false) cats → IsCategoryWord cats c w
    → MatchOption (slice_get cats c) ⊥ (λ cat. IsTrue (not cat.context) × IsSpelling cat.name w)
plain_spelling [] c w none h = h
plain_spelling (k ∷ cats) zero w none h = (ap not none.0, h)
plain_spelling (k ∷ cats) (suc c) w none h = plain_spelling cats c w none.1 h

pub spelling_plain : (cats : List Cat) (c : ℕ) (w : List ℕ) → MatchOption (slice_get cats c) ⊥ (λ cat. IsTrue (not cat.context) × IsSpelling cat.name w) → IsCategoryWord cats c w
spelling_plain [] c w h = h
spelling_plain (k ∷ cats) zero w h = h.1
spelling_plain (k ∷ cats) (suc c) w h = spelling_plain cats c w h

none_mapped : (ids : List CatId) → map (λ (p : CatId). p.0) ids ≡ [] → ids ≡ []
none_mapped [] e = refl
none_mapped (p ∷ ps) e = (let never : p.0 ∷ map (λ (p : CatId). p.0) ps ≡ [] = e in cc)

module _ (sig : Signature) (bare : IsBareSignature sig) (forms : List (List Token)) where
  named : (metas : List MetaDecl) → AllByRecursion HasNoBracket forms → AllByRecursion (IsCollected sig.cats (joined forms)) metas → AllByRecursion (IsNamed sig forms) metas
  named [] none h = tt
  named (m ∷ metas) none h =
      let here = joined_word forms m.name (h.0).written in (
        record {
          written = here;
          cat = plain_spelling sig.cats m.cat.0 m.name bare.plain.no_context (h.0).cat;
          params = subst (λ (ps : List CatId). Rattle.rule_schemes.specs.NewNames.HasParameters sig m.name forms (map (λ p. p.0) ps)) (sym (h.0).params) (has_no_parameters sig m.name forms none here);
          few = (let none : length m.params ≡ 0 = ap length (h.0).params in omega arith);
        },
        named metas none h.1,
      )

  -- what is collected are the names of the forms, where no bracket opens
  pub names_from : (metas : List MetaDecl) → AllByRecursion HasNoBracket forms → AreGathered sig.cats (joined forms) metas → AreNamesOf sig forms metas
  names_from metas none h = record {
    each = named metas none h.each;
    all = λ w c s spelled. h.all w c (word_joined forms w s) (spelling_plain sig.cats c w spelled);
    differ = h.differ;
  }

  pub collected_each : (metas : List MetaDecl) → AllByRecursion (IsNamed sig forms) metas → AllByRecursion (IsCollected sig.cats (joined forms)) metas
  collected_each metas h = all_map (IsNamed sig forms) (IsCollected sig.cats (joined forms)) (λ m n. record {
    written = word_joined forms m.name n.written;
    cat = spelling_plain sig.cats m.cat.0 m.name n.cat;
    params = none_mapped m.params (parameters_none sig bare.variables m.name forms (map (λ p. p.0) m.params) n.params);
  }) metas h

  pub gathered_from : (metas : List MetaDecl) → AreNamesOf sig forms metas → AreGathered sig.cats (joined forms) metas
  gathered_from metas h = record {
    each = collected_each metas h.each;
    all = λ w c s spelled. h.all w c (joined_word forms w s) (plain_spelling sig.cats c w bare.plain.no_context spelled);
    differ = h.differ;
  }

-- the law
pub in_scope : ReadingsAreInScope
in_scope th names form j bare plain h = form_in_scope th.sig th.judgments bare.sig bare.judgments th refl refl names names plain form j h (λ m d o g. g)
