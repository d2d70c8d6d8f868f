-- What forms without names and contexts read as.
use Rattle.std.proofs.Common.{◌≡◌, ◌≤◌, ◌+◌, ℕ, List, [], ◌∷◌, ◌++◌, length, map, refl, ap, ◌∙◌, sym, subst, Some, None, slice_get, zero, suc}
use Rattle.std.specs.Prelude.{Option}
use Rattle.std.specs.List.{AllByRecursion}
use Rattle.binding_terms.specs.Signature.{Signature, slots, binders}
use Rattle.binding_terms.specs.Scope.{IsTerm, AreParts, bound}
use Rattle.binding_terms.specs.declared.grammar.Item.{Item}
use Rattle.scheme_terms.specs.SchemeTree.{SchemeTree, Parts}
use Rattle.scheme_terms.specs.Forms.{KnownVariable, Instance}
use Rattle.scheme_terms.specs.Instance.{instance_of, parts_instance}
use Rattle.scheme_terms.specs.Context.{AreArguments, IsValue, scope_of}
use Rattle.scheme_terms.specs.declared.scheme.MetaDecl.{MetaDecl}
use Rattle.scheme_terms.specs.declared.scheme.Root.TheVariants.{Closed}
use Rattle.rule_schemes.specs.Plain.{IsPlainSignature}
use Rattle.rule_schemes.specs.Reading.{Token, Variable, ReadingScope, ReadsTerm, group, metavariable, variable, production, ReadsItems, all_read, terminal, binder, slot, slot_variables, Means, ReadsForm, form_end, form_terminal, form_context, form_slot, ReadsJudgment, without_context, with_context}
use Rattle.rule_schemes.specs.Rules.{JudgmentScheme, Theory, IsJudgment, argument_slots, root_of}
use Rattle.rule_schemes.specs.View.{judgment_scheme}
use Rattle.rule_schemes.specs.declared.rule.JScheme.{JScheme}
use Rattle.rule_schemes.specs.declared.reading.Written.TheVariants as writings
use Rattle.binding_terms.specs.declared.grammar.CatId.{CatId}
use Rattle.rule_schemes.specs.Said.{want_judgment, a_judgment, Want, Written, a_term, a_context, Said, ReadsWanted, reads_term, reads_judgment, reads_context, ReadsAs, HasOneReading}
use Rattle.rule_schemes.specs.AtValue.{judgment_at, no_names}
use Rattle.rule_schemes.specs.declared.rule.Judgment.{Judgment}
use Rattle.rule_schemes.specs.declared.reading.Reading.{Reading}
use Rattle.rule_schemes.specs.declared.reading.Reading.TheVariants.{One, NoReading, Ambiguous}
use Rattle.notation_parser.specs.Answer.{IsAnswer}
use Rattle.notation_parser.specs.Plain.{IsReadable}
use Rattle.notation_parser.proofs.Readable.{plain_readable}
use Rattle.notation_parser.specs.View.{written}
use Rattle.derivation_text.specs.Bare.{HasNoContexts}
use Rattle.derivation_text.specs.Valid.{nothing_around, scope_at, ReadsAlone}
use Rattle.derivation_text.specs.Found as found
use Rattle.derivation_text.specs.Found.{IsClosedForm, HasNoJudgment}
use Rattle.binding_terms.proofs.Lists.{all_at, matched}

no_meta : {A : Type 0} (m : ℕ) {decl : MetaDecl} → slice_get {X = MetaDecl} [] m ≡ Some decl → A
no_meta zero e = absurd (cc)
no_meta (suc m) e = absurd (cc)

-- In a theory in which no slot binds, a form without names is a term without variables.
module _ (sig : Signature) (plain : IsPlainSignature sig) where
  abbrev empty : Instance
  empty = no_names nothing_around.value

  abbrev FreeSlots : List Item → Type 0
  FreeSlots items = AllByRecursion (λ s. s.binds ≡ []) (slots items)

  mutual
    term_reads : {vars : List Variable} {c : ℕ} {ts : List Token} {s : SchemeTree} → ReadsTerm sig [] vars c ts s → vars ≡ [] → IsTerm sig [] c (instance_of empty 0 s)
    term_reads (group e r) none = term_reads r none
    term_reads (metavariable {m = m} e k c r) none = no_meta m k
    term_reads {c = c} {s = s} (variable {w = w} e means) none = absurd (subst (λ (vs : List Variable). Means 0 vs w c s) none means)
    term_reads {c = c} (production {p = p} {prod = prod} {xs = xs} e d r) none =
        matched (λ prod. (prod.cat.0 ≡ c) × AreParts sig [] (binders prod.items) (slots prod.items) (parts_instance empty 0 xs)) (slice_get sig.prods p) prod e
        (d, items_read r none (binders prod.items) (all_at (λ prod. FreeSlots prod.items) sig.prods p prod plain.no_binding e))

    items_read : {vars own : List Variable} {words : List (List ℕ)} {items : List Item} {ts : List Token} {xs : Parts} →
        ReadsItems sig [] vars own words items ts xs → vars ≡ [] → (bs : List ℕ) → FreeSlots items
        → AreParts sig [] bs (slots items) (parts_instance empty 0 xs)
    items_read all_read none bs free = tt
    items_read (terminal h r) none bs free = items_read r none bs free
    items_read (binder h r) none bs free = items_read r none bs free
    items_read {vars = vars} {own = own} (slot {c = c} {binds = binds} {s = s} split some t r) none bs free = (
      refl,
      subst (λ (ns : List ℕ). IsTerm sig (bound bs ns ++ []) c.0 (instance_of empty (0 + length ns) s)) (sym free.0)
          (term_reads t (ap (λ (ns : List ℕ). slot_variables own ns ++ vars) free.0 ∙ none)),
      items_read r none bs free.1,
    )

  form_reads : {vars : List Variable} {ctx : Option CatId} {front : List Token} {items : List Item} {ts : List Token} {ss : List SchemeTree} →
      ReadsForm sig [] vars ctx front items ts ss → ctx ≡ None → vars ≡ [] → AreArguments sig [] (slots items) (map (instance_of empty 0) ss)
  form_reads form_end closed none = tt
  form_reads (form_terminal h r) closed none = form_reads r closed none
  form_reads (form_context {id = id} e split r) closed none = absurd (let h : Some id ≡ None = sym e ∙ closed in cc)
  form_reads (form_slot n split some t r) closed none = (term_reads t none, form_reads r closed none)

-- A form without names reads as a judgment without a context.
pub record IsClosed (th : Theory) (j : JudgmentScheme) : Type 0 where
  pub form : IsClosedForm j
  pub judged : IsJudgment th (judgment_at nothing_around.value j)

abbrev AtJudgment : (JudgmentScheme → Type 0) → Written → Type 0
AtJudgment P (a_judgment j) = P j
AtJudgment P (a_term s) = Unit {0}
AtJudgment P (a_context c) = Unit {0}

abbrev closed_scheme : ℕ → List SchemeTree → JudgmentScheme
closed_scheme k ss = record { judgment = k; context = record { root = Closed; entries = [] }; args = ss }

module _ (th : Theory) (bare : HasNoContexts th) where
  no_context_of : (k : ℕ) (j : Judgment) (id : CatId) {A : Type 0} → slice_get th.judgments k ≡ Some j → j.ctx ≡ Some id → A
  no_context_of k j id e c = absurd (let h : Some id ≡ None = sym c ∙ all_at (λ j. j.ctx ≡ None) th.judgments k j bare.judgments e in cc)

  judged : (k : ℕ) (j : Judgment) (ss : List SchemeTree) → slice_get th.judgments k ≡ Some j → j.ctx ≡ None
      → AreArguments th.sig [] (slots j.items) (map (instance_of (no_names nothing_around.value) 0) ss) → IsJudgment th (judgment_at nothing_around.value (closed_scheme k ss))
  judged k j ss e c args =
      let v = judgment_at nothing_around.value (closed_scheme k ss) in
      matched (λ form. IsValue th.sig (root_of form.ctx) v.context × AreArguments th.sig (scope_of th.sig v.context) (argument_slots form.ctx (slots form.items)) v.args)
      (slice_get th.judgments k) j e
      (subst (λ (ctx : Option CatId). IsValue th.sig (root_of ctx) v.context × AreArguments th.sig [] (argument_slots ctx (slots j.items)) v.args) (sym c) ((refl, refl), args))

  judgment_reads : {ts : List Token} {j : JudgmentScheme} {ks : List KnownVariable} → ReadsJudgment th.sig th.judgments (scope_at nothing_around) [] ts j ks → IsClosed th j × (ks ≡ [])
  judgment_reads (without_context {k = k} {j = j} {ss = ss} e c r) =
      (record { form = record { root = refl; entries = refl }; judged = judged k j ss e c (form_reads th.sig bare.plain.sig r refl refl) }, refl)
  judgment_reads (with_context {k = k} {j = j} {id = id} e c once ctx r) = no_context_of k j id e c

  wanted_reads : {ts : List Token} {want : Want} {w : Written} {ks : List KnownVariable} → ReadsWanted th.sig th.judgments (scope_at nothing_around) [] ts want w ks
      → want ≡ want_judgment → AtJudgment (IsClosed th) w × (ks ≡ [])
  wanted_reads (reads_term r) e = (tt, refl)
  wanted_reads (reads_judgment r) e = judgment_reads r
  wanted_reads (reads_context {c = c} r) e = absurd (cc)

  abbrev only_judgment : List Want
  only_judgment = want_judgment ∷ []

  the_want : {want : Want} → slice_get only_judgment 0 ≡ Some want → want ≡ want_judgment
  the_want e = cc

  pub reads_closed : (ts : List Token) (j : JudgmentScheme) → found.ReadsJudgment th ts j → IsClosed th j
  reads_closed ts j h = (wanted_reads h.reading.reads.reads.form (the_want h.reading.reads.here)).0

  said_alone : {ts : List Token} {said : Said} → ReadsAs th.sig th.judgments (scope_at nothing_around) only_judgment ts (0, said) → (said.metas ≡ []) × (said.knowns ≡ [])
  said_alone {ts} {said} r =
      let none : said.metas ≡ [] = r.reads.metas.allowed refl in
      let form = subst (λ (ms : List MetaDecl). ReadsWanted th.sig th.judgments (scope_at nothing_around) ms ts r.want said.written said.knowns) none r.reads.form in
      (none, (wanted_reads form (the_want r.here)).1)

  abbrev Answers : List Token → Reading → Type 0
  Answers ts r = IsAnswer th.sig th.judgments (scope_at nothing_around) want_judgment ts r

  one_reads : (ts : List Token) (said : Said) → length ts ≤ 256 → HasOneReading th.sig th.judgments (scope_at nothing_around) only_judgment ts (0, said)
      → ReadsAlone th nothing_around only_judgment ts 0 said.written
  one_reads ts said short one =
      let alone = said_alone one.reads in
      let same : said ≡ record { written = said.written; metas = []; knowns = [] } = λ i. record { written = said.written; metas = alone.0 i; knowns = alone.1 i } in
      record { within = short; reading = subst (λ (s : Said). HasOneReading th.sig th.judgments (scope_at nothing_around) only_judgment ts (0, s)) same one }

  pub reads_one : (ts : List Token) (r : Reading) (w : _) (ms : _) (ks : _) (j : JScheme) → Answers ts r → r ≡ One w ms ks → w ≡ writings.Judgment j
      → found.ReadsJudgment th ts (judgment_scheme j)
  reads_one ts r w ms ks j answer e f =
      let here = subst (λ (r : Reading). Answers ts r) e answer in
      subst (λ (v : _). ReadsAlone th nothing_around only_judgment ts 0 (written v)) f (one_reads ts _ here.0 here.1)

  pub reads_none : (ts : List Token) (r : Reading) → Answers ts r → r ≡ NoReading → HasNoJudgment th ts
  reads_none ts r answer e j h = (subst (λ (r : Reading). Answers ts r) e answer).1 _ h.reading.reads

  pub reads_two : (ts : List Token) (r : Reading) (a b : _) → Answers ts r → r ≡ Ambiguous a b → HasNoJudgment th ts
  reads_two ts r a b answer e j h =
      let two = (subst (λ (r : Reading). Answers ts r) e answer).1 in
      two.1.new.0 (h.reading.no_other _ two.0.reads ∙ sym (h.reading.no_other _ two.1.reads))

-- the answer over what the system lends
pub over : (th : Theory) (sig : Signature) (js : List Judgment) (scope : ReadingScope) (ts : List Token) (r : Reading) → sig ≡ th.sig → js ≡ th.judgments → scope ≡ scope_at nothing_around
    → IsAnswer sig js scope want_judgment ts r → IsAnswer th.sig th.judgments (scope_at nothing_around) want_judgment ts r
over th sig js scope ts r e f g h =
    subst (λ (s : Signature). IsAnswer s th.judgments (scope_at nothing_around) want_judgment ts r) e
    (subst (λ (l : List Judgment). IsAnswer sig l (scope_at nothing_around) want_judgment ts r) f
    (subst (λ (v : ReadingScope). IsAnswer sig js v want_judgment ts r) g h))

-- forms are readable where there is no context
pub readable : (th : Theory) → HasNoContexts th → IsReadable (scope_at nothing_around)
readable th h =
    plain_readable th.sig th.judgments (scope_at nothing_around) want_judgment
    (record {
      nothing_binds = record { variables = h.variables; names = tt; parameters = tt };
      judgments = h.judgments;
      knowns = refl;
      vars = refl;
      fresh = refl;
      no_context = tt;
    })
