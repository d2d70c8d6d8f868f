-- A grammar alone stands for a file.
use Rattle.std.proofs.Common.{◌≡◌, ℕ, List, [], ◌∷◌, Option, Some, None, refl, sym, subst}
use Rattle.std.specs.List.{AllByRecursion, AllZip}
use Rattle.outline_reader.specs.Plain.{PlainPortion, terminals, syntax_word, category}
use Rattle.rule_schemes.specs.Rules.{Theory}
use Rattle.core_proofs.specs.Proof.{no_step}
use Rattle.judgments.specs.Statements.{IsTheoremOf, AreTargetsEven}
use Rattle.judgments.specs.Texts.{JudgmentText, RuleText, TheoremText, judgments_in, rules_in, theorems_in}
use Rattle.judgments.specs.Theory.{Declared, a_judgment, a_rule, a_theorem, declared_name, IsSameName, AreNamedAlike, AreNamedApart, IsJudgmentOf, IsBlockRule}
use Rattle.proof_check.specs.File.{IsGrammarPortion}
use Rattle.proof_check.specs.Laws.{theory_over, GrammarsAreFiles}
use Rattle.proof_check.specs.Steps.{AreStepsFrom}

no_judgments : (ps : List PlainPortion) → AllByRecursion IsGrammarPortion ps → judgments_in ps ≡ []
no_judgments [] all = refl
no_judgments (terminals first items ∷ ps) all = no_judgments ps all.1
no_judgments (syntax_word first ∷ ps) all = no_judgments ps all.1
no_judgments (category name mark forms ∷ ps) all = no_judgments ps all.1
no_judgments (p ∷ ps) all = absurd all.0

no_rules : (n : ℕ) (ps : List PlainPortion) → AllByRecursion IsGrammarPortion ps → rules_in n ps ≡ []
no_rules n [] all = refl
no_rules n (terminals first items ∷ ps) all = no_rules n ps all.1
no_rules n (syntax_word first ∷ ps) all = no_rules n ps all.1
no_rules n (category name mark forms ∷ ps) all = no_rules n ps all.1
no_rules n (p ∷ ps) all = absurd all.0

no_theorems : (n : ℕ) (ps : List PlainPortion) → AllByRecursion IsGrammarPortion ps → theorems_in n ps ≡ []
no_theorems n [] all = refl
no_theorems n (terminals first items ∷ ps) all = no_theorems n ps all.1
no_theorems n (syntax_word first ∷ ps) all = no_theorems n ps all.1
no_theorems n (category name mark forms ∷ ps) all = no_theorems n ps all.1
no_theorems n (p ∷ ps) all = absurd all.0

no_name : (what : Declared) (p : PlainPortion) → IsGrammarPortion p → declared_name what p ≡ None
no_name a_judgment (terminals first items) is = refl
no_name a_rule (terminals first items) is = refl
no_name a_theorem (terminals first items) is = refl
no_name a_judgment (syntax_word first) is = refl
no_name a_rule (syntax_word first) is = refl
no_name a_theorem (syntax_word first) is = refl
no_name a_judgment (category name mark forms) is = refl
no_name a_rule (category name mark forms) is = refl
no_name a_theorem (category name mark forms) is = refl
no_name what p is = absurd is

not_same : (x y : Option (List ℕ)) → x ≡ None → IsSameName x y → ⊥
not_same None None e same = same
not_same None (Some w) e same = same
not_same (Some v) y e same = cc

apart_from_all : (what : Declared) (p : PlainPortion) (ps : List PlainPortion) → IsGrammarPortion p → AllByRecursion (λ q. AreNamedAlike what p q → ⊥) ps
apart_from_all what p [] is = tt
apart_from_all what p (q ∷ ps) is = (not_same (declared_name what p) (declared_name what q) (no_name what p is), apart_from_all what p ps is)

apart : (what : Declared) (ps : List PlainPortion) → AllByRecursion IsGrammarPortion ps → AreNamedApart what ps
apart what [] all = tt
apart what (p ∷ ps) all = (apart_from_all what p ps all.0, apart what ps all.1)

no_steps : (th : Theory) (ps : List PlainPortion) → AllByRecursion IsGrammarPortion ps → AreStepsFrom th [] 0 ps []
no_steps th [] all = (refl, refl)
no_steps th (terminals first items ∷ ps) all = (tt, no_steps th ps all.1)
no_steps th (syntax_word first ∷ ps) all = (tt, no_steps th ps all.1)
no_steps th (category name mark forms ∷ ps) all = (tt, no_steps th ps all.1)
no_steps th (p ∷ ps) all = absurd all.0

pub grammars_are_files : GrammarsAreFiles
grammars_are_files ps sig is all =
    let th : Theory = theory_over sig in
    record {
      signature = is;
      theory = record {
        judgments = subst (λ (texts : List JudgmentText). AllZip (IsJudgmentOf sig ps) texts []) (sym (no_judgments ps all)) tt;
        rules = subst (λ (texts : List RuleText). AllZip (IsBlockRule sig []) texts []) (sym (no_rules 0 ps all)) tt;
        judgment_names = apart a_judgment ps all;
        rule_names = apart a_rule ps all;
        system = record { so_far = record { sig = is.fits; judgments = tt; rules = tt; one_assumption = tt }; closed_ok = tt };
      };
      are_statements = record {
        each = subst (λ (texts : List TheoremText). AllZip (IsTheoremOf th) texts []) (sym (no_theorems 0 ps all)) tt;
        theorem_names = apart a_theorem ps all;
        targets = subst AreTargetsEven (sym (no_theorems 0 ps all)) tt;
      };
      are_steps = no_steps th ps all;
      proves = no_step;
    }
