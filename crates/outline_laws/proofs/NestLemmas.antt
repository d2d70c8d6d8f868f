-- Portions whose tokens go so are nested.
use Rattle.std.proofs.Common.{◌≡◌, ℕ, ◌+◌, Bool, true, false, cond, ◌||◌, List, [], ◌∷◌, map, take, Option, Some, None, refl, sym, ◌∙◌, ap, subst, add-one}
use Rattle.proof_lexer.specs.View.{token_view}
use Rattle.proof_lexer.specs.declared.token.Token.{Token}
use Rattle.outline_reader.specs.declared.fault.Part.{Part}
use Rattle.outline_reader.specs.declared.fault.Part.TheVariants as part
use Rattle.outline_reader.specs.declared.symbols.Role.{Role}
use Rattle.outline_reader.specs.declared.symbols.Role.TheVariants as role
use Rattle.outline_reader.specs.declared.machine.Seen.{Seen}
use Rattle.outline_reader.specs.Sorts.{sort_of}
use Rattle.outline_reader.specs.Derives.{seen_after}
use Rattle.outline_reader.specs.Outline.{IsOutlined}
use Rattle.outline_reader.specs.Fields.{same_role, name_or}
use Rattle.outline_reader.specs.Filled.{within_portion}
use Rattle.outline_reader.specs.Portions.{begins, names_category, portion_length, ended, call, just_by, case_head, category_line, portion, portions}
use Rattle.outline_reader.specs.Plain.{PlainPortion, plain_justification, plain_portion}
use Rattle.outline_reader.proofs.Truth.{true_not_false}
use Rattle.outline_reader.proofs.WritingLemmas.{writes}
use Rattle.outline_reader.proofs.FollowLemmas.{Follow, outlined_follow, no_true}
use Rattle.outline_laws.specs.Nesting.{IsWordOf, HoldsCases, behind_step, AreNested, PortionsAreNested}
use Rattle.outline_laws.proofs.KindWords.{kind_spelled}
use Rattle.outline_laws.proofs.ActLemmas.{Mode, free, in_step, in_end, behind_and, act, put, Goes, Walks}
use Rattle.outline_laws.proofs.WalkLemmas.{outlined_walks}

-- ---- what the tokens that are left of a portion tell

abbrev block_by : Role → Option Part
block_by role.Cases = Some part.CaseAnalysis
block_by role.Induction = Some part.Induction
block_by _ = None

-- they tell nothing more
abbrev Quiet : List Role → List Token → Type 0
Quiet roles tokens = (call roles ≡ role.NameAlone) × (ended roles ≡ part.Case) × ((otherwise : Token) → name_or otherwise role.KindWord roles tokens ≡ otherwise)

abbrev Told : Mode → List Part → List Role → List Token → List PlainPortion → Type 0
Told free blocks roles tokens rest = Quiet roles tokens × AreNested blocks rest
Told in_step blocks roles tokens rest = AreNested (put (block_by (call roles)) blocks) rest
Told in_end blocks roles tokens rest = (outer : List Part) × (blocks ≡ ended roles ∷ outer) × AreNested outer rest
Told behind_and blocks roles tokens rest =
    (blocks ≡ []) × ((otherwise : Token) → (kind : Part) × IsWordOf (token_view (name_or otherwise role.KindWord roles tokens)).text kind × AreNested (kind ∷ []) rest)

no_false : {A : Type 0} → true ≡ false → A
no_false h = absurd (let no : true ≡ false = h in cc)

-- ---- a token within a portion

abbrev Below : (Mode → List Part → Type 0) → List Role → List Token → List PlainPortion → Type 0
Below on roles tokens rest = (later : Mode) (inner : List Part) → on later inner → Told later inner roles tokens rest

more_told : (mode : Mode) (one : Role) (blocks : List Part) (on : Mode → List Part → Type 0) (roles : List Role) (token : Token) (tokens : List Token) (rest : List PlainPortion) →
    begins one ≡ false → Goes mode blocks (act one) (sort_of token) on → Below on roles tokens rest → Told mode blocks (one ∷ roles) (token ∷ tokens) rest
more_told free role.TerminalsWord blocks on roles token tokens rest calm goes below = no_false calm
more_told free role.SyntaxWord blocks on roles token tokens rest calm goes below = no_false calm
more_told free role.CategoryName blocks on roles token tokens rest calm goes below = no_false calm
more_told free role.JudgmentWord blocks on roles token tokens rest calm goes below = no_false calm
more_told free role.RulePremise blocks on roles token tokens rest calm goes below = no_false calm
more_told free role.RuleBar blocks on roles token tokens rest calm goes below = no_false calm
more_told free role.AndWord blocks on roles token tokens rest calm goes below = no_false calm
more_told free role.TheoremWord blocks on roles token tokens rest calm goes below = no_false calm
more_told free role.StepName blocks on roles token tokens rest calm goes below = no_false calm
more_told free role.ProofWord blocks on roles token tokens rest calm goes below = no_false calm
more_told free role.InversionWord blocks on roles token tokens rest calm goes below = no_false calm
more_told free role.CaseWord blocks on roles token tokens rest calm goes below = no_false calm
more_told free role.EndWord blocks on roles token tokens rest calm goes below = no_false calm
more_told free role.RuleCall blocks on roles token tokens rest calm goes below = absurd goes
more_told free role.TheoremCall blocks on roles token tokens rest calm goes below = absurd goes
more_told free role.HypothesisCall blocks on roles token tokens rest calm goes below = absurd goes
more_told free role.Contradiction blocks on roles token tokens rest calm goes below = absurd goes
more_told free role.Weakening blocks on roles token tokens rest calm goes below = absurd goes
more_told free role.Exchange blocks on roles token tokens rest calm goes below = absurd goes
more_told free role.Substitution blocks on roles token tokens rest calm goes below = absurd goes
more_told free role.Unproved blocks on roles token tokens rest calm goes below = absurd goes
more_told free role.Cases blocks on roles token tokens rest calm goes below = absurd goes
more_told free role.Induction blocks on roles token tokens rest calm goes below = absurd goes
more_told free role.NameAlone blocks on roles token tokens rest calm goes below = absurd goes
more_told free role.EndTheorem blocks on roles token tokens rest calm goes below = absurd goes
more_told free role.EndLemma blocks on roles token tokens rest calm goes below = absurd goes
more_told free role.EndCase blocks on roles token tokens rest calm goes below = absurd goes
more_told free role.EndAnalysis blocks on roles token tokens rest calm goes below = absurd goes
more_told free role.EndInduction blocks on roles token tokens rest calm goes below = absurd goes
more_told free role.KindWord blocks on roles token tokens rest calm goes below = absurd goes
more_told free role.NewCategory blocks on roles token tokens rest calm goes below = below free blocks goes.1
more_told free _ blocks on roles token tokens rest calm goes below = below free blocks goes
more_told in_step role.Cases blocks on roles token tokens rest calm goes below = (below free (part.CaseAnalysis ∷ blocks) goes).1
more_told in_step role.Induction blocks on roles token tokens rest calm goes below = (below free (part.Induction ∷ blocks) goes).1
more_told in_step role.RuleCall blocks on roles token tokens rest calm goes below = (below free blocks goes).1
more_told in_step role.TheoremCall blocks on roles token tokens rest calm goes below = (below free blocks goes).1
more_told in_step role.HypothesisCall blocks on roles token tokens rest calm goes below = (below free blocks goes).1
more_told in_step role.Contradiction blocks on roles token tokens rest calm goes below = (below free blocks goes).1
more_told in_step role.Weakening blocks on roles token tokens rest calm goes below = (below free blocks goes).1
more_told in_step role.Exchange blocks on roles token tokens rest calm goes below = (below free blocks goes).1
more_told in_step role.Substitution blocks on roles token tokens rest calm goes below = (below free blocks goes).1
more_told in_step role.Unproved blocks on roles token tokens rest calm goes below = (below free blocks goes).1
more_told in_step role.NameAlone blocks on roles token tokens rest calm goes below =
    let told = below free blocks goes in subst (λ by. AreNested (put (block_by by) blocks) rest) (sym told.0.0) told.1
more_told in_step role.TerminalsWord blocks on roles token tokens rest calm goes below = absurd goes
more_told in_step role.SyntaxWord blocks on roles token tokens rest calm goes below = absurd goes
more_told in_step role.CategoryName blocks on roles token tokens rest calm goes below = absurd goes
more_told in_step role.JudgmentWord blocks on roles token tokens rest calm goes below = absurd goes
more_told in_step role.RulePremise blocks on roles token tokens rest calm goes below = absurd goes
more_told in_step role.RuleBar blocks on roles token tokens rest calm goes below = absurd goes
more_told in_step role.AndWord blocks on roles token tokens rest calm goes below = absurd goes
more_told in_step role.TheoremWord blocks on roles token tokens rest calm goes below = absurd goes
more_told in_step role.StepName blocks on roles token tokens rest calm goes below = absurd goes
more_told in_step role.ProofWord blocks on roles token tokens rest calm goes below = absurd goes
more_told in_step role.InversionWord blocks on roles token tokens rest calm goes below = absurd goes
more_told in_step role.CaseWord blocks on roles token tokens rest calm goes below = absurd goes
more_told in_step role.EndWord blocks on roles token tokens rest calm goes below = absurd goes
more_told in_step role.NewCategory blocks on roles token tokens rest calm goes below = absurd goes
more_told in_step role.Item blocks on roles token tokens rest calm goes below = absurd goes
more_told in_step role.EndTheorem blocks on roles token tokens rest calm goes below = absurd goes
more_told in_step role.EndLemma blocks on roles token tokens rest calm goes below = absurd goes
more_told in_step role.EndCase blocks on roles token tokens rest calm goes below = absurd goes
more_told in_step role.EndAnalysis blocks on roles token tokens rest calm goes below = absurd goes
more_told in_step role.EndInduction blocks on roles token tokens rest calm goes below = absurd goes
more_told in_step role.KindWord blocks on roles token tokens rest calm goes below = absurd goes
more_told in_step _ blocks on roles token tokens rest calm goes below = below in_step blocks goes
more_told in_end role.EndTheorem blocks on roles token tokens rest calm goes below = (goes.0, goes.1, (below free goes.0 goes.2).1)
more_told in_end role.EndLemma blocks on roles token tokens rest calm goes below = (goes.0, goes.1, (below free goes.0 goes.2).1)
more_told in_end role.EndCase blocks on roles token tokens rest calm goes below =
    let told = below free goes.0 goes.2 in (goes.0, goes.1 ∙ ap (λ (one : Part). one ∷ goes.0) (sym told.0.1), told.1)
more_told in_end role.EndAnalysis blocks on roles token tokens rest calm goes below = (goes.0, goes.1, (below free goes.0 goes.2).1)
more_told in_end role.EndInduction blocks on roles token tokens rest calm goes below = (goes.0, goes.1, (below free goes.0 goes.2).1)
more_told in_end role.TerminalsWord blocks on roles token tokens rest calm goes below = absurd goes
more_told in_end role.SyntaxWord blocks on roles token tokens rest calm goes below = absurd goes
more_told in_end role.CategoryName blocks on roles token tokens rest calm goes below = absurd goes
more_told in_end role.JudgmentWord blocks on roles token tokens rest calm goes below = absurd goes
more_told in_end role.RulePremise blocks on roles token tokens rest calm goes below = absurd goes
more_told in_end role.RuleBar blocks on roles token tokens rest calm goes below = absurd goes
more_told in_end role.AndWord blocks on roles token tokens rest calm goes below = absurd goes
more_told in_end role.TheoremWord blocks on roles token tokens rest calm goes below = absurd goes
more_told in_end role.StepName blocks on roles token tokens rest calm goes below = absurd goes
more_told in_end role.ProofWord blocks on roles token tokens rest calm goes below = absurd goes
more_told in_end role.InversionWord blocks on roles token tokens rest calm goes below = absurd goes
more_told in_end role.CaseWord blocks on roles token tokens rest calm goes below = absurd goes
more_told in_end role.EndWord blocks on roles token tokens rest calm goes below = absurd goes
more_told in_end role.NewCategory blocks on roles token tokens rest calm goes below = absurd goes
more_told in_end role.Item blocks on roles token tokens rest calm goes below = absurd goes
more_told in_end role.Cases blocks on roles token tokens rest calm goes below = absurd goes
more_told in_end role.Induction blocks on roles token tokens rest calm goes below = absurd goes
more_told in_end role.RuleCall blocks on roles token tokens rest calm goes below = absurd goes
more_told in_end role.TheoremCall blocks on roles token tokens rest calm goes below = absurd goes
more_told in_end role.HypothesisCall blocks on roles token tokens rest calm goes below = absurd goes
more_told in_end role.Contradiction blocks on roles token tokens rest calm goes below = absurd goes
more_told in_end role.Weakening blocks on roles token tokens rest calm goes below = absurd goes
more_told in_end role.Exchange blocks on roles token tokens rest calm goes below = absurd goes
more_told in_end role.Substitution blocks on roles token tokens rest calm goes below = absurd goes
more_told in_end role.Unproved blocks on roles token tokens rest calm goes below = absurd goes
more_told in_end role.NameAlone blocks on roles token tokens rest calm goes below = absurd goes
more_told in_end role.KindWord blocks on roles token tokens rest calm goes below = absurd goes
more_told in_end _ blocks on roles token tokens rest calm goes below = below in_end blocks goes
more_told behind_and role.KindWord blocks on roles token tokens rest calm goes below =
    (goes.0, (λ otherwise. (goes.1.0, kind_spelled token goes.1.0 goes.1.1, subst (λ bs. AreNested (goes.1.0 ∷ bs) rest) goes.0 (below free (goes.1.0 ∷ blocks) goes.1.2).1)))
more_told behind_and _ blocks on roles token tokens rest calm goes below = absurd goes

-- ---- a portion

module _ (blocks : List Part) (rest : List PlainPortion) where
  category_nested : (first : Token) (roles : List Role) (tokens : List Token) → blocks ≡ [] → AreNested blocks rest → AreNested blocks (plain_portion (category_line first roles tokens) ∷ rest)
  category_nested first [] tokens none nested = (none, nested)
  category_nested first (one ∷ []) tokens none nested = (none, nested)
  category_nested first (one ∷ define ∷ roles) tokens none nested = (none, nested)

  case_nested : (first : Token) (roles : List Role) (tokens : List Token) → HoldsCases blocks → AreNested (part.Case ∷ blocks) rest → AreNested blocks (plain_portion (case_head first roles tokens) ∷ rest)
  case_nested first [] tokens holds nested = (holds, nested)
  case_nested first (word ∷ []) tokens holds nested = (holds, nested)
  case_nested first (word ∷ role.RuleCase ∷ roles) tokens holds nested = (holds, nested)
  case_nested first (word ∷ other ∷ roles) tokens holds nested = (holds, nested)

  step_opens : (by : Role) (first : Token) (roles : List Role) (tokens : List Token) → behind_step (plain_justification (just_by by first roles tokens)) blocks ≡ put (block_by by) blocks
  step_opens role.Cases first roles tokens = refl
  step_opens _ first roles tokens = refl

  piece_nested : (one : Role) (on : Mode → List Part → Type 0) (token : Token) (roles : List Role) (tokens : List Token) → (begins one ≡ false → same_role one role.Item ≡ true) →
      (same_role one role.Item ≡ true → on free blocks → blocks ≡ []) → Goes free blocks (act one) (sort_of token) on → Below on roles tokens rest → AreNested blocks (plain_portion (portion one token (one ∷ roles) (token ∷ tokens)) ∷ rest)
  piece_nested role.TerminalsWord on token roles tokens begun top goes below = (goes.0, (below free blocks goes.1).1)
  piece_nested role.SyntaxWord on token roles tokens begun top goes below = (goes.0, (below free blocks goes.1).1)
  piece_nested role.JudgmentWord on token roles tokens begun top goes below = (goes.0, (below free blocks goes.1).1)
  piece_nested role.RulePremise on token roles tokens begun top goes below = (goes.0, (below free blocks goes.1).1)
  piece_nested role.RuleBar on token roles tokens begun top goes below = (goes.0, (below free blocks goes.1).1)
  piece_nested role.CategoryName on token roles tokens begun top goes below = category_nested token (role.CategoryName ∷ roles) (token ∷ tokens) goes.0 (below free blocks goes.1).1
  piece_nested role.Item on token roles tokens begun top goes below = category_nested token (role.Item ∷ roles) (token ∷ tokens) (top refl goes) (below free blocks goes).1
  piece_nested role.AndWord on token roles tokens begun top goes below = (goes.0, (below behind_and blocks goes.1).1 token)
  piece_nested role.TheoremWord on token roles tokens begun top goes below =
      let kind = goes.1.0 in
      let told = below free (kind ∷ blocks) goes.1.2 in
      (goes.0, (kind, subst (λ (word : Token). IsWordOf (token_view word).text kind) (sym (told.0.2 token)) (kind_spelled token kind goes.1.1), subst (λ bs. AreNested (kind ∷ bs) rest) goes.0 told.1))
  piece_nested role.StepName on token roles tokens begun top goes below =
      (goes.0, subst (λ bs. AreNested bs rest) (sym (step_opens (call roles) token (role.StepName ∷ roles) (token ∷ tokens))) (below in_step blocks goes.1))
  piece_nested role.ProofWord on token roles tokens begun top goes below =
      (goes.0, subst (λ bs. AreNested bs rest) (sym (step_opens (call roles) token (role.ProofWord ∷ roles) (token ∷ tokens))) (below in_step blocks goes.1))
  piece_nested role.InversionWord on token roles tokens begun top goes below = (goes.0, (below free blocks goes.1).1)
  piece_nested role.CaseWord on token roles tokens begun top goes below = case_nested token (role.CaseWord ∷ roles) (token ∷ tokens) goes.0 (below free (part.Case ∷ blocks) goes.1).1
  piece_nested role.EndWord on token roles tokens begun top goes below = below in_end blocks goes
  piece_nested _ on token roles tokens begun top goes below = no_true (begun refl)

-- ---- from token to token

neither : (a b : Bool) → a ≡ false → b ≡ false → (a || b) ≡ false
neither true b first second = no_false first
neither false b first second = second

pub only_item : (a b c : Bool) → (a || b) ≡ true → (c ≡ false → b ≡ false) → a ≡ false → c ≡ true
only_item a b true h names calm = refl
only_item true b false h names calm = no_false calm
only_item false b false h names calm = true_not_false b h (names refl)

busy : Mode → Bool
busy free = false
busy _ = true

-- in a step, an `end` line and behind `and` no portion begins before these have told what they are
busy_goes : (mode : Mode) (one : Role) (blocks : List Part) (token : Token) (on : Mode → List Part → Type 0) → busy mode ≡ true → Goes mode blocks (act one) (sort_of token) on → (begins one ≡ false) × (same_role one role.Item ≡ false)
unfolding busy
busy_goes free one blocks token on is goes = no_true is
busy_goes in_step role.TerminalsWord blocks token on is goes = absurd goes
busy_goes in_step role.SyntaxWord blocks token on is goes = absurd goes
busy_goes in_step role.CategoryName blocks token on is goes = absurd goes
busy_goes in_step role.JudgmentWord blocks token on is goes = absurd goes
busy_goes in_step role.RulePremise blocks token on is goes = absurd goes
busy_goes in_step role.RuleBar blocks token on is goes = absurd goes
busy_goes in_step role.AndWord blocks token on is goes = absurd goes
busy_goes in_step role.TheoremWord blocks token on is goes = absurd goes
busy_goes in_step role.StepName blocks token on is goes = absurd goes
busy_goes in_step role.ProofWord blocks token on is goes = absurd goes
busy_goes in_step role.InversionWord blocks token on is goes = absurd goes
busy_goes in_step role.CaseWord blocks token on is goes = absurd goes
busy_goes in_step role.EndWord blocks token on is goes = absurd goes
busy_goes in_step role.Item blocks token on is goes = absurd goes
busy_goes in_step _ blocks token on is goes = (refl, refl)
busy_goes in_end role.TerminalsWord blocks token on is goes = absurd goes
busy_goes in_end role.SyntaxWord blocks token on is goes = absurd goes
busy_goes in_end role.CategoryName blocks token on is goes = absurd goes
busy_goes in_end role.JudgmentWord blocks token on is goes = absurd goes
busy_goes in_end role.RulePremise blocks token on is goes = absurd goes
busy_goes in_end role.RuleBar blocks token on is goes = absurd goes
busy_goes in_end role.AndWord blocks token on is goes = absurd goes
busy_goes in_end role.TheoremWord blocks token on is goes = absurd goes
busy_goes in_end role.StepName blocks token on is goes = absurd goes
busy_goes in_end role.ProofWord blocks token on is goes = absurd goes
busy_goes in_end role.InversionWord blocks token on is goes = absurd goes
busy_goes in_end role.CaseWord blocks token on is goes = absurd goes
busy_goes in_end role.EndWord blocks token on is goes = absurd goes
busy_goes in_end role.Item blocks token on is goes = absurd goes
busy_goes in_end _ blocks token on is goes = (refl, refl)
busy_goes behind_and role.TerminalsWord blocks token on is goes = absurd goes
busy_goes behind_and role.SyntaxWord blocks token on is goes = absurd goes
busy_goes behind_and role.CategoryName blocks token on is goes = absurd goes
busy_goes behind_and role.JudgmentWord blocks token on is goes = absurd goes
busy_goes behind_and role.RulePremise blocks token on is goes = absurd goes
busy_goes behind_and role.RuleBar blocks token on is goes = absurd goes
busy_goes behind_and role.AndWord blocks token on is goes = absurd goes
busy_goes behind_and role.TheoremWord blocks token on is goes = absurd goes
busy_goes behind_and role.StepName blocks token on is goes = absurd goes
busy_goes behind_and role.ProofWord blocks token on is goes = absurd goes
busy_goes behind_and role.InversionWord blocks token on is goes = absurd goes
busy_goes behind_and role.CaseWord blocks token on is goes = absurd goes
busy_goes behind_and role.EndWord blocks token on is goes = absurd goes
busy_goes behind_and role.Item blocks token on is goes = absurd goes
busy_goes behind_and _ blocks token on is goes = (refl, refl)

item_begins : (one : Role) → same_role one role.Item ≡ true → begins one ≡ false
item_begins role.Item h = refl
item_begins _ h = no_true h

second_holds : (a b : Bool) → (a || b) ≡ true → a ≡ false → b ≡ true
second_holds true b h calm = no_false calm
second_holds false b h calm = h

-- where a portion begins with a token of a list, the `::=` of a category comes next
pub names_item : (one : Role) (roles : List Role) → (begins one || names_category roles) ≡ true → same_role one role.Item ≡ true → names_category roles ≡ true
names_item one roles is item = second_holds (begins one) (names_category roles) is (item_begins one item)

names_top : (blocks : List Part) (roles : List Role) (tokens : List Seen) → names_category roles ≡ true → Walks free blocks roles tokens → blocks ≡ []
unfolding Walks
names_top blocks [] tokens names walks = no_true names
names_top blocks (role.NewCategory ∷ roles) [] names walks = absurd walks
names_top blocks (role.NewCategory ∷ roles) (token ∷ tokens) names walks = walks.0
names_top blocks (_ ∷ roles) tokens names walks = no_true names

module _ (one : Role) (roles : List Role) (token : Token) (tokens : List Token) where
  abbrev Rest : List PlainPortion
  Rest = map plain_portion (portions roles tokens)

  abbrev size : ℕ
  size = portion_length roles

  abbrev here : ℕ → PlainPortion
  here count = plain_portion (portion one token (take count (one ∷ roles)) (take count (token ∷ tokens)))

  abbrev Told_so : Mode → List Part → Bool → Type 0
  Told_so mode blocks b =
      Told mode blocks (take (cond b 0 (size + 1)) (one ∷ roles)) (take (cond b 0 (size + 1)) (token ∷ tokens))
      (map plain_portion (cond b (portion one token (take (size + 1) (one ∷ roles)) (take (size + 1) (token ∷ tokens)) ∷ portions roles tokens) (portions roles tokens)))

  told_inside : (mode : Mode) (blocks : List Part) (on : Mode → List Part → Type 0) → begins one ≡ false → Goes mode blocks (act one) (sort_of token) on → Below on (take size roles) (take size tokens) Rest → Told_so mode blocks false
  told_inside mode blocks on calm goes below =
      subst (λ count. Told mode blocks (take count (one ∷ roles)) (take count (token ∷ tokens)) Rest) (sym (add-one size))
      (more_told mode one blocks on (take size roles) token (take size tokens) Rest calm goes below)

  told_begun : (blocks : List Part) (on : Mode → List Part → Type 0) → (begins one ≡ false → same_role one role.Item ≡ true) → (same_role one role.Item ≡ true → on free blocks → blocks ≡ []) →
      Goes free blocks (act one) (sort_of token) on → Below on (take size roles) (take size tokens) Rest → Told_so free blocks true
  told_begun blocks on begun top goes below = (
    (refl, refl, λ otherwise. refl),
    subst (λ count. AreNested blocks (here count ∷ Rest)) (sym (add-one size)) (piece_nested blocks Rest one on token (take size roles) (take size tokens) begun top goes below),
  )

  told_busy : (mode : Mode) (blocks : List Part) (on : Mode → List Part → Type 0) → busy mode ≡ true → (same_role one role.Item ≡ false → names_category roles ≡ false) → Goes mode blocks (act one) (sort_of token) on →
      Below on (take size roles) (take size tokens) Rest → Told_so mode blocks (begins one || names_category roles)
  told_busy mode blocks on is names goes below =
      let calm = busy_goes mode one blocks token on is goes in
      subst (λ b. Told_so mode blocks b) (sym (neither (begins one) (names_category roles) calm.0 (names calm.1))) (told_inside mode blocks on calm.0 goes below)

  told_free : (blocks : List Part) (on : Mode → List Part → Type 0) → (same_role one role.Item ≡ false → names_category roles ≡ false) → (names_category roles ≡ true → on free blocks → blocks ≡ []) →
      Goes free blocks (act one) (sort_of token) on → Below on (take size roles) (take size tokens) Rest → (b : Bool) → (begins one || names_category roles) ≡ b → Told_so free blocks b
  told_free blocks on names top goes below true is =
      told_begun blocks on (only_item (begins one) (names_category roles) (same_role one role.Item) is names)
      (λ item. top (names_item one roles is item)) goes below
  told_free blocks on names top goes below false is = told_inside free blocks on (calm (begins one) (names_category roles) is) goes below
    where
      calm : (a b : Bool) → (a || b) ≡ false → a ≡ false
      calm true b h = no_false h
      calm false b h = refl

one_told : (mode : Mode) (blocks : List Part) (one : Role) (roles : List Role) (token : Token) (tokens : List Token) (on : Mode → List Part → Type 0) → (same_role one role.Item ≡ false → names_category roles ≡ false) →
    (names_category roles ≡ true → on free blocks → blocks ≡ []) → Goes mode blocks (act one) (sort_of token) on → Below on (within_portion roles) (take (portion_length roles) tokens) (map plain_portion (portions roles tokens)) →
    Told_so one roles token tokens mode blocks (begins one || names_category roles)
unfolding busy
one_told free blocks one roles token tokens on names top goes below = told_free one roles token tokens blocks on names top goes below (begins one || names_category roles) refl
one_told in_step blocks one roles token tokens on names top goes below = told_busy one roles token tokens in_step blocks on refl names goes below
one_told in_end blocks one roles token tokens on names top goes below = told_busy one roles token tokens in_end blocks on refl names goes below
one_told behind_and blocks one roles token tokens on names top goes below = told_busy one roles token tokens behind_and blocks on refl names goes below

nothing_told : (mode : Mode) (blocks : List Part) (tokens : List Token) → mode ≡ free → blocks ≡ [] → Told mode blocks [] (take 0 tokens) []
nothing_told free blocks tokens is none = ((refl, refl, λ otherwise. refl), none)
nothing_told in_step blocks tokens is none = absurd (let no : in_step ≡ free = is in cc)
nothing_told in_end blocks tokens is none = absurd (let no : in_end ≡ free = is in cc)
nothing_told behind_and blocks tokens is none = absurd (let no : behind_and ≡ free = is in cc)

told : (mode : Mode) (blocks : List Part) (before : Option ℕ) (roles : List Role) (tokens : List Token) → Follow roles → Walks mode blocks roles (seen_after before tokens) →
    Told mode blocks (within_portion roles) (take (portion_length roles) tokens) (map plain_portion (portions roles tokens))
unfolding Follow Walks
told mode blocks before [] tokens follow walks = nothing_told mode blocks tokens walks.0 walks.1
told mode blocks before (one ∷ roles) [] follow walks = absurd walks
told mode blocks before (one ∷ roles) (token ∷ tokens) follow walks =
    one_told mode blocks one roles token tokens (λ later inner. Walks later inner roles (seen_after (Some token.line) tokens)) follow.1
    (λ names next. names_top blocks roles (seen_after (Some token.line) tokens) names next) walks (λ later inner next. told later inner (Some token.line) roles tokens follow.2 next)

outlined_nested : (tokens : List Token) (roles : List Role) → IsOutlined tokens roles → AreNested [] (map plain_portion (portions roles tokens))
outlined_nested tokens roles is =
    (told free [] None roles tokens (subst (λ (rs : List Role). Follow rs) (sym is.2) (outlined_follow (writes is.1))) (outlined_walks tokens roles is)).1

pub portions_nested : PortionsAreNested
portions_nested source found has =
    subst (AreNested []) (sym (has.plain ∙ ap (map plain_portion) has.outline.2)) (outlined_nested has.tokens has.outline.0 has.outline.1)
