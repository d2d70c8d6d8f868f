-- What a right block analyses is what its choices ask of a subject; calls and cases are those that the crates of calls and cases answer.
use Rattle.std.specs.Prelude.{◌≡◌, ℕ, zero, suc, List, [], ◌∷◌, length, Option, Some, None, option_map, unwrap_or, slice_get, MatchOption}
use Rattle.std.specs.List.{AllByRecursion}
use Rattle.std.proofs.Common.{refl, ap, sym, subst, arith}
use Rattle.scheme_terms.specs.SchemeTree.{SchemeTree}
use Rattle.scheme_terms.specs.Forms.{SchemeEntry, SchemeContext, Names, Substitution}
use Rattle.scheme_terms.specs.declared.scheme.MetaDecl.{MetaDecl}
use Rattle.scheme_terms.specs.SchemeScope.{IsSchemeContext, StandsWith}
use Rattle.rule_schemes.specs.Rules.{JudgmentScheme, Theory}
use Rattle.rule_schemes.specs.Statement.{Theorem}
use Rattle.case_split.specs.Choice.{JudgmentChoice, SyntaxChoice}
use Rattle.coverage_check.specs.MostGeneralCase.{IsMostGeneralCase, IsMostGeneralTermCase}
use Rattle.coverage_check.specs.Answers.{IsRefinedCase, IsRefinedTermCase}
use Rattle.theorem_calls.specs.Raised.{Argument}
use Rattle.theorem_calls.specs.Answers.{called, root_mismatch, IsCallAnswer}
use Rattle.proof_trees.specs.Steps.{Subject, step_subject, scheme_subject, CaseHead}
use Rattle.proof_trees.specs.Calls.{IsCall}
use Rattle.proof_trees.specs.WrittenCases.{IsWrittenCase, case_with, term_case_with}
use Rattle.proof_trees.specs.Choices.{SubjectForm, on_judgment, on_scheme, IsSubjectOf, IsChoiceFor}
use Rattle.proof_trees.specs.Here.{Here, Held, held_at, IsAnalysed}
use Rattle.proof_trees.specs.Right.{IsForm, IsSubjectInScope}
use Rattle.proof_trees.specs.Laws.{names_of_goal, AnalysedIsSubject}

abbrev IsHeldForm : Theory → Here → Option Held → Type 0
IsHeldForm th here h = MatchOption h (Unit {0}) (λ known. IsForm th here.scope known.judgment)

-- what holds of all that is held holds of what is held under a number
held_form : (th : Theory) (here : Here) (hs : List (Option Held)) (n : ℕ) → AllByRecursion (IsHeldForm th here) hs → IsHeldForm th here (unwrap_or (slice_get hs n) None)
held_form th here [] n all = tt
held_form th here (h ∷ hs) zero all = all.0
held_form th here (h ∷ hs) (suc n) all = held_form th here hs n all.1

some_of : Option JudgmentScheme → ℕ
some_of None = 0
some_of (Some x) = 1

form_of_held : (th : Theory) (here : Here) (h : Option Held) (j : JudgmentScheme) → IsHeldForm th here h → option_map (λ known. known.judgment) h ≡ Some j → IsForm th here.scope j
unfolding some_of
form_of_held th here None j is e = absurd (let apart : 0 ≡ 1 = ap some_of e in omega (arith, apart))
form_of_held th here (Some h) j is e = subst (IsForm th here.scope) (ap (λ o. unwrap_or o h.judgment) e) is

pub analysed_is_subject : AnalysedIsSubject
analysed_is_subject th around head subject system over right = of_subject head.subject subject right.subject_is right.in_scope
  where
    of_subject : (s : Subject) (subject : SubjectForm) → IsAnalysed around s subject → IsSubjectInScope th around.scope subject → IsSubjectOf th around.scope subject
    of_subject (step_subject n) (on_judgment j) is there =
        let form : IsForm th around.scope j = form_of_held th around (held_at around n) j (held_form th around around.held n over.held) is in
        record { system = system; knowns = over.knowns; form = form.in_scope; root = form.root }
    of_subject (step_subject n) (on_scheme ctx t c) is there = absurd is
    of_subject (scheme_subject s cat) (on_judgment j) is there = absurd is
    of_subject (scheme_subject s cat) (on_scheme ctx t c) is there =
        record {
          system = system;
          knowns = over.knowns;
          over = names_of_goal around;
          over_root = refl;
          over_knowns = refl;
          context = subst (IsSchemeContext th.sig (names_of_goal around)) (sym is.0) over.context;
          root = subst (λ (x : SchemeContext). StandsWith around.scope.root x.root) (sym is.0) over.root;
          term = there;
        }

-- A call is an instance of a statement exactly where `call` answers so, and then its roots fit.
pub call_is_answered : (th : Theory) (scope : Names) (fresh : List MetaDecl) (callee : Theorem) (args : List Argument) (results : List JudgmentScheme) (first : List SchemeEntry) →
    (is : IsCall th scope fresh callee args results first) → IsCallAnswer th scope fresh callee args results (called is.entries is.values is.names)
call_is_answered th scope fresh callee args results first is = (is.counts, (first, is.root, is.called))

pub answered_is_call : (th : Theory) (scope : Names) (fresh : List MetaDecl) (callee : Theorem) (args : List Argument) (results : List JudgmentScheme)
    (k : ℕ) (values : Substitution) (names : List ℕ) → IsCallAnswer th scope fresh callee args results (called k values names) →
    (first : List SchemeEntry) × IsCall th scope fresh callee args results first
answered_is_call th scope fresh callee args results k values names is =
    (is.1.0, record { counts = is.0; entries = k; root = is.1.1; values = values; names = names; called = is.1.2 })

pub roots_fit : (th : Theory) (scope : Names) (fresh : List MetaDecl) (callee : Theorem) (args : List Argument) (results : List JudgmentScheme) (first : List SchemeEntry) →
    IsCall th scope fresh callee args results first → IsCallAnswer th scope fresh callee args results root_mismatch → ⊥
roots_fit th scope fresh callee args results first is none = none.1 is.entries first is.root

-- What `check_case` refines is a written case of its choice, and what `check_term_case` refines.
pub refined_is_written : (th : Theory) (outer : Names) (j form : JudgmentScheme) (head : CaseHead) (choice : JudgmentChoice) (refine : Substitution) →
    head.conclusion ≡ Some form → head.term ≡ None → IsChoiceFor th outer (on_judgment j) head.number head.place choice →
    IsRefinedCase th.sig outer choice (case_with head form) refine → IsWrittenCase th outer (on_judgment j) head refine
refined_is_written th outer j form head choice refine concludes no_term is_choice refined =
    record {
      choice = choice;
      is_choice = is_choice;
      by = refined.by;
      is_case = (no_term, subst (λ o. MatchOption o ⊥ (λ f. IsMostGeneralCase th.sig outer choice (case_with head f) refined.by)) (sym concludes) refined.most_general);
      outer_names = refined.values_are;
    }

pub refined_term_is_written : (th : Theory) (outer : Names) (ctx : SchemeContext) (s t : SchemeTree) (cat : ℕ) (head : CaseHead) (choice : SyntaxChoice) (refine : Substitution) →
    head.conclusion ≡ None → head.premises ≡ [] → head.term ≡ Some t → IsChoiceFor th outer (on_scheme ctx s cat) head.number head.place choice →
    IsRefinedTermCase th.sig outer (length ctx.entries) choice (term_case_with head t) refine → IsWrittenCase th outer (on_scheme ctx s cat) head refine
refined_term_is_written th outer ctx s t cat head choice refine no_conclusion no_premise has_term is_choice refined =
    record {
      choice = choice;
      is_choice = is_choice;
      by = refined.by;
      is_case = (
        no_conclusion,
        no_premise,
        subst (λ o. MatchOption o ⊥ (λ u. IsMostGeneralTermCase th.sig outer (length ctx.entries) choice (term_case_with head u) refined.by)) (sym has_term) refined.most_general,
      );
      outer_names = refined.values_are;
    }
