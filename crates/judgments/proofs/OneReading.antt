-- What the answers to a reading say of the one reading of a form.
use Rattle.std.proofs.Common.{◌≡◌, ◌≤◌, ℕ, List, [], ◌∷◌, length, map, refl, ap, ◌∙◌, sym, subst, Option, Some, None, MatchOption}
use Rattle.std.specs.List.{AllByRecursion}
use Rattle.binding_terms.specs.Signature.{Signature}
use Rattle.proof_lexer.specs.View as lexed
use Rattle.proof_lexer.specs.View.{kind_and_text}
use Rattle.proof_lexer.specs.declared.token.Kind.{Kind}
use Rattle.proof_lexer.specs.declared.token.Kind.TheVariants as kinds
use Rattle.proof_lexer.specs.declared.token.Token as of_token
use Rattle.scheme_terms.specs.Forms.{Names}
use Rattle.scheme_terms.specs.declared.scheme.MetaDecl.{MetaDecl}
use Rattle.scheme_terms.specs.Forms.{KnownVariable}
use Rattle.rule_schemes.specs.Reading.{Token, ReadingScope, not_fresh, without_context, with_context}
use Rattle.rule_schemes.specs.Rules.{JudgmentScheme}
use Rattle.rule_schemes.specs.Said.{Want, want_judgment, Written, a_judgment, Said, ReadsWanted, reads_term, reads_judgment, reads_context, HasOneReading, HasNoReading, AreFirstTwo}
use Rattle.rule_schemes.specs.declared.rule.Judgment.{Judgment}
use Rattle.rule_schemes.specs.declared.reading.Reading.{Reading}
use Rattle.rule_schemes.specs.declared.reading.Reading.TheVariants.{One, NoReading, Ambiguous}
use Rattle.rule_schemes.specs.declared.reading.Written as of_written
use Rattle.rule_schemes.specs.declared.reading.Said as of_said
use Rattle.rule_schemes.specs.declared.rule.JScheme.{JScheme}
use Rattle.rule_schemes.specs.View.{judgment_scheme}
use Rattle.scheme_terms.specs.declared.scheme.KnownDecl.{KnownDecl}
use Rattle.notation_parser.specs.Answer.{IsAnswer}
use Rattle.notation_parser.specs.Plain.{IsPlain}
use Rattle.notation_parser.specs.View as parsed
use Rattle.term_reader.specs.View as terms
use Rattle.judgments.specs.Written.{settled, ReadsOnlyAs}
use Rattle.binding_terms.proofs.Lists.{all_at}

same_kind : (k : Kind) → lexed.kind_number k ≡ terms.kind_number k
same_kind kinds.Word = refl
same_kind kinds.Symbol = refl
same_kind kinds.Punct = refl
same_kind kinds.Bar = refl
same_kind kinds.Quoted = refl

-- the readers of forms see tokens as the lexer does
pub same_tokens : (ts : List of_token.Token) → map terms.token ts ≡ map kind_and_text ts
same_tokens [] = refl
same_tokens (t ∷ ts) =
    let rest = same_tokens ts in
    let first : terms.token t ≡ kind_and_text t = ap (λ n. (n, t.text.now)) (sym (same_kind t.kind)) in
    cc

module _ (sig : Signature) (js : List Judgment) (names : Names) (ts : List Token) where
  the_want : (want : Want) → Rattle.std.specs.Prelude.slice_get (want_judgment ∷ []) 0 ≡ Some want → want ≡ want_judgment
  the_want want e = (let same : Some want_judgment ≡ Some want = e in cc)

  no_known : {scope : ReadingScope} {ms : List MetaDecl} {v : Want} {x : Written} {ks : List KnownVariable} → AllByRecursion (λ (j : Judgment). j.ctx ≡ None) js
      → ReadsWanted sig js scope ms ts v x ks → v ≡ want_judgment → ks ≡ []
  no_known none (reads_term r) e = cc
  no_known none (reads_context {c = c} r) e = cc
  no_known none (reads_judgment (without_context g c r)) e = refl
  no_known none (reads_judgment (with_context {k = k} {j = j} {id = id} g c once ctx r)) e =
      (let never : None ≡ Some id = sym (all_at (λ (j : Judgment). j.ctx ≡ None) js k j none g) ∙ c in cc)

  said_so : (said : Said) (j : JudgmentScheme) → said.written ≡ a_judgment j → said.metas ≡ [] → said.knowns ≡ [] → said ≡ record { written = a_judgment j; metas = []; knowns = [] }
  said_so said j e m k = λ i. record { written = e i; metas = m i; knowns = k i }

  -- the one reading is this judgment
  pub one_read : (said : Said) (j : JudgmentScheme) → length ts ≤ 256 → AllByRecursion (λ (j : Judgment). j.ctx ≡ None) js
      → HasOneReading sig js (settled names) (want_judgment ∷ []) ts (0, said) → said.written ≡ a_judgment j → ReadsOnlyAs sig js names ts j
  one_read said j short none h e =
      let read = h.reads.reads in
      let want = the_want h.reads.want h.reads.here in
      let same = said_so said j e (read.metas.allowed refl) (no_known none read.form want) in
      record { within = short; reading = subst (λ (s : Said). HasOneReading sig js (settled names) (want_judgment ∷ []) ts (0, s)) same h }

  pub other_read : (said : Said) → HasOneReading sig js (settled names) (want_judgment ∷ []) ts (0, said) → ((j : JudgmentScheme) → said.written ≡ a_judgment j → ⊥)
      → (j : JudgmentScheme) → ReadsOnlyAs sig js names ts j → ⊥
  other_read said h none j k = none j (ap (λ (x : ℕ × Said). (x.1).written) (k.reading.no_other (0, said) h.reads))

  pub none_read : HasNoReading sig js (settled names) (want_judgment ∷ []) ts → (j : JudgmentScheme) → ReadsOnlyAs sig js names ts j → ⊥
  none_read h j k = h (0, record { written = a_judgment j; metas = []; knowns = [] }) k.reading.reads

  pub two_read : (a b : ℕ × Said) → AreFirstTwo sig js (settled names) (want_judgment ∷ []) ts a b → (j : JudgmentScheme) → ReadsOnlyAs sig js names ts j → ⊥
  two_read a b h j k = (h.1).new.0 (k.reading.no_other a (h.0).reads ∙ sym (k.reading.no_other b (h.1).reads))

settled_scope : (scope : ReadingScope) → scope.vars ≡ [] → scope.fresh ≡ not_fresh → scope ≡ settled scope.names
settled_scope scope v f = λ i. record { names = scope.names; vars = v i; fresh = f i }

module _ (sig : Signature) (js : List Judgment) (scope : ReadingScope) (ts : List of_token.Token) (plain : IsPlain sig js scope want_judgment) where
  settled_answer : (r : Reading) → IsAnswer sig js scope want_judgment (map terms.token ts) r → IsAnswer sig js (settled scope.names) want_judgment (map kind_and_text ts) r
  settled_answer r h =
      subst (λ us. IsAnswer sig js (settled scope.names) want_judgment us r) (same_tokens ts)
      (subst (λ (s : ReadingScope). IsAnswer sig js s want_judgment (map terms.token ts) r) (settled_scope scope plain.vars plain.fresh) h)

  pub one_answer : (w : of_written.Written) (ms : List MetaDecl) (ks : List KnownDecl) (found : Option JScheme) → IsAnswer sig js scope want_judgment (map terms.token ts) (One w ms ks)
      → MatchOption found ((j : JudgmentScheme) → parsed.written w ≡ a_judgment j → ⊥) (λ j. parsed.written w ≡ a_judgment (judgment_scheme j))
      → MatchOption found ((j : JudgmentScheme) → ReadsOnlyAs sig js scope.names (map kind_and_text ts) j → ⊥) (λ j. ReadsOnlyAs sig js scope.names (map kind_and_text ts) (judgment_scheme j))
  one_answer w ms ks None h none = let a = settled_answer (One w ms ks) h in other_read sig js scope.names (map kind_and_text ts) _ a.1 none
  one_answer w ms ks (Some j) h e =
      let a = settled_answer (One w ms ks) h in one_read sig js scope.names (map kind_and_text ts) _ (judgment_scheme j) a.0 plain.judgments a.1 e

  pub no_answer : IsAnswer sig js scope want_judgment (map terms.token ts) NoReading → (j : JudgmentScheme) → ReadsOnlyAs sig js scope.names (map kind_and_text ts) j → ⊥
  no_answer h = none_read sig js scope.names (map kind_and_text ts) (settled_answer NoReading h).1

  pub two_answers : (a b : of_said.Said) → IsAnswer sig js scope want_judgment (map terms.token ts) (Ambiguous a b) → (j : JudgmentScheme) → ReadsOnlyAs sig js scope.names (map kind_and_text ts) j → ⊥
  two_answers a b h = two_read sig js scope.names (map kind_and_text ts) _ _ (settled_answer (Ambiguous a b) h).1
