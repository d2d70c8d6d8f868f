-- The grammar of a file: what each phrase may begin with, and what follows; to be held against the table of forms of the notation.
-- A token is named by where it stands (First: it begins its line; Next: it goes on the line), by what it may be, and by its role in the outline.
use Rattle.std.specs.Prelude.{List, [], ◌∷◌}
use Rattle.outline_reader.specs.declared.fault.Part.TheVariants as part
use Rattle.outline_reader.specs.declared.sort.Sort.TheVariants as s
use Rattle.outline_reader.specs.declared.symbols.Place.{Place}
use Rattle.outline_reader.specs.declared.symbols.Place.TheVariants as place
use Rattle.outline_reader.specs.declared.symbols.Class.{Class}
use Rattle.outline_reader.specs.declared.symbols.Class.TheVariants as class
use Rattle.outline_reader.specs.declared.symbols.Role.{Role}
use Rattle.outline_reader.specs.declared.symbols.Role.TheVariants as role
use Rattle.outline_reader.specs.declared.symbols.Phrase.{Phrase}
use Rattle.outline_reader.specs.declared.symbols.Phrase.TheVariants as p
use Rattle.outline_reader.specs.declared.symbols.Times.{Times}
use Rattle.outline_reader.specs.declared.symbols.Times.TheVariants as times
use Rattle.outline_reader.specs.declared.symbols.Rest.{Rest}
use Rattle.outline_reader.specs.declared.symbols.Rest.TheVariants as rest
use Rattle.outline_reader.specs.declared.symbols.Symbol.TheVariants.{One, Choice}
use Rattle.outline_reader.specs.declared.symbols.Item.{Item}
use Rattle.outline_reader.specs.declared.symbols.Item.TheVariants.{Here, In}

-- how often alternatives of the phrase are taken
abbrev pub times_of : Phrase → Times
times_of p.Parts = times.Any
times_of p.FirstTheorem = times.AtMostOnce
times_of p.LaterParts = times.Any
times_of p.AndKind = times.Once
times_of p.TheoremBody = times.Once
times_of p.LemmaBody = times.Once
times_of p.MoreListed = times.Any
times_of p.FirstDefine = times.Once
times_of p.Productions = times.AtMostOnce
times_of p.AfterLineName = times.AtMostOnce
times_of p.AfterLineToken = times.AtMostOnce
times_of p.MoreOnLine = times.Any
times_of p.MoreOfForm = times.Any
times_of p.JudgmentAssumes = times.AtMostOnce
times_of p.Rules = times.Any
times_of p.RuleLines = times.Once
times_of p.TheoremAssumes = times.AtMostOnce
times_of p.Inputs = times.Any
times_of p.InputForm = times.AtMostOnce
times_of p.Output = times.Once
times_of p.OutputAfterDot = times.Once
times_of p.OutputTokens = times.Any
times_of p.OutputGoesOn = times.AtMostOnce
times_of p.Proof = times.AtMostOnce
times_of p.MoreTargets = times.Any
times_of p.Steps = times.AtMostOnce
times_of p.Just = times.Once
times_of p.FirstJust = times.Once
times_of p.InductionOrHypothesis = times.Once
times_of p.Args = times.AtMostOnce
times_of p.MoreArgs = times.Any
times_of p.Arg = times.Once
times_of p.Enclosed = times.Once
times_of p.MoreEnclosed = times.Any
times_of p.CaseList = times.Any
times_of p.CaseHead = times.Once
times_of p.CaseAssumes = times.AtMostOnce
times_of p.HeadLines = times.Once
times_of p.Inverted = times.AtMostOnce

-- where the first token stands, which it may be, what it is, and what comes after it
abbrev pub Alternative : Type 0
Alternative = Place × Class × Role × Rest

-- the alternatives of a phrase
abbrev pub alternatives : Phrase → List Alternative
alternatives p.Parts =
    (place.First, (class.Is s.Terminals), role.TerminalsWord, rest.Terminals) ∷
    (place.First, (class.Is s.Syntax), role.SyntaxWord, rest.Syntax) ∷
    (place.First, (class.Is s.Judgment), role.JudgmentWord, rest.Judgment) ∷ []
alternatives p.FirstTheorem =
    (place.First, (class.Is s.Theorem), role.TheoremWord, rest.FirstTheorem) ∷
    (place.First, (class.Is s.Lemma), role.TheoremWord, rest.FirstLemma) ∷ []
alternatives p.LaterParts =
    (place.First, (class.Is s.Terminals), role.TerminalsWord, rest.Terminals) ∷
    (place.First, (class.Is s.Syntax), role.SyntaxWord, rest.Syntax) ∷
    (place.First, (class.Is s.Judgment), role.JudgmentWord, rest.Judgment) ∷
    (place.First, (class.Is s.Theorem), role.TheoremWord, rest.Theorem) ∷
    (place.First, (class.Is s.Lemma), role.TheoremWord, rest.Lemma) ∷
    (place.First, (class.Is s.And), role.AndWord, rest.And) ∷ []
alternatives p.AndKind =
    (place.Anywhere, (class.Is s.Theorem), role.KindWord, rest.Theorem) ∷
    (place.Anywhere, (class.Is s.Lemma), role.KindWord, rest.Lemma) ∷ []
alternatives p.TheoremBody = (place.Anywhere, (class.Is s.Name), role.Name, rest.TheoremBody) ∷ []
alternatives p.LemmaBody = (place.Anywhere, (class.Is s.Name), role.Name, rest.LemmaBody) ∷ []
alternatives p.MoreListed = (place.Next, class.Listed, role.Item, rest.Nothing) ∷ []
alternatives p.FirstDefine =
    (place.Next, (class.Is s.Define), role.Sign, rest.Productions) ∷
    (place.First, (class.Is s.Define), role.Sign, rest.AfterLineToken) ∷ []
alternatives p.Productions =
    (place.Next, (class.Is s.Or), role.Or, rest.Productions) ∷
    (place.Next, class.ButOr, role.Item, rest.Productions) ∷
    (place.First, (class.Is s.Name), role.Item, rest.AfterLineName) ∷
    (place.First, (class.Is s.Or), role.Or, rest.AfterLineToken) ∷
    (place.First, class.ButOrName, role.Item, rest.AfterLineToken) ∷ []
alternatives p.AfterLineName =
    (place.Next, (class.Is s.Define), role.NewCategory, rest.Productions) ∷
    (place.Next, (class.Is s.Or), role.Or, rest.Productions) ∷
    (place.Next, class.ButOrDefine, role.Item, rest.Productions) ∷
    (place.First, (class.Is s.Name), role.Item, rest.AfterLineName) ∷
    (place.First, (class.Is s.Or), role.Or, rest.AfterLineToken) ∷
    (place.First, class.ButOrName, role.Item, rest.AfterLineToken) ∷ []
alternatives p.AfterLineToken =
    (place.Next, (class.Is s.Or), role.Or, rest.Productions) ∷
    (place.Next, class.ButOrDefine, role.Item, rest.Productions) ∷
    (place.First, (class.Is s.Name), role.Item, rest.AfterLineName) ∷
    (place.First, (class.Is s.Or), role.Or, rest.AfterLineToken) ∷
    (place.First, class.ButOrName, role.Item, rest.AfterLineToken) ∷ []
alternatives p.MoreOnLine = (place.Next, class.Formed, role.More, rest.Nothing) ∷ []
alternatives p.MoreOfForm = (place.Anywhere, class.Formed, role.More, rest.Nothing) ∷ []
alternatives p.JudgmentAssumes = (place.Anywhere, (class.Is s.Assumes), role.Sign, rest.AssumedName) ∷ []
alternatives p.Rules =
    (place.First, class.ButBar, role.RulePremise, rest.RuleLines) ∷
    (place.First, (class.Is s.Bar), role.RuleBar, rest.BarLine) ∷ []
alternatives p.RuleLines =
    (place.First, class.ButBar, role.Premise, rest.RuleLines) ∷
    (place.First, (class.Is s.Bar), role.Bar, rest.BarLine) ∷ []
alternatives p.TheoremAssumes = (place.Anywhere, (class.Is s.Assumes), role.Sign, rest.AssumedTheorem) ∷ []
alternatives p.Inputs = (place.Anywhere, (class.Is s.Forall), role.ForallWord, rest.Input) ∷ []
alternatives p.InputForm = (place.Anywhere, (class.Is s.Colon), role.Sign, rest.InputForm) ∷ []
alternatives p.Output =
    (place.Anywhere, class.ButDot, role.Output, rest.OutputTokens) ∷
    (place.Anywhere, (class.Is s.Dot), role.Output, rest.OutputAfterDot) ∷ []
alternatives p.OutputAfterDot =
    (place.Next, class.ButDot, role.More, rest.OutputTokens) ∷
    (place.Next, (class.Is s.Dot), role.More, rest.OutputGoesOn) ∷ []
alternatives p.OutputTokens = (place.Anywhere, class.ButDot, role.More, rest.Nothing) ∷ []
alternatives p.OutputGoesOn =
    (place.Next, class.ButDot, role.More, rest.OutputTokens) ∷
    (place.Next, (class.Is s.Dot), role.More, rest.OutputGoesOn) ∷ []
alternatives p.Proof =
    (place.First, (class.Is s.Use), role.Sign, rest.Use) ∷
    (place.First, (class.Is s.Name), role.StepName, rest.FirstStep) ∷
    (place.First, (class.Is s.Proof), role.ProofWord, rest.FirstProofStep) ∷
    (place.First, (class.Is s.Inversion), role.InversionWord, rest.Inversion) ∷ []
alternatives p.MoreTargets = (place.Next, (class.Is s.Comma), role.Sign, rest.Target) ∷ []
alternatives p.Steps =
    (place.First, (class.Is s.Name), role.StepName, rest.Step) ∷
    (place.First, (class.Is s.Proof), role.ProofWord, rest.ProofStep) ∷
    (place.First, (class.Is s.Inversion), role.InversionWord, rest.Inversion) ∷ []
alternatives p.Just =
    (place.Next, (class.Is s.Rule), role.RuleCall, rest.Call) ∷
    (place.Next, (class.Is s.Theorem), role.TheoremCall, rest.Call) ∷
    (place.Next, (class.Is s.Lemma), role.TheoremCall, rest.Call) ∷
    (place.Next, (class.Is s.Induction), role.Sign, rest.Hypothesis) ∷
    (place.Next, (class.Is s.Case), role.Cases, rest.Analysis) ∷
    (place.Next, (class.Is s.Contradiction), role.Contradiction, rest.OnArg) ∷
    (place.Next, (class.Is s.Weakening), role.Weakening, rest.OnName) ∷
    (place.Next, (class.Is s.Exchange), role.Exchange, rest.OnName) ∷
    (place.Next, (class.Is s.Substitution), role.Substitution, rest.OnTwoNames) ∷
    (place.Next, (class.Is s.Unproved), role.Unproved, rest.Nothing) ∷
    (place.Next, (class.Is s.Name), role.NameAlone, rest.Nothing) ∷ []
alternatives p.FirstJust =
    (place.Next, (class.Is s.Rule), role.RuleCall, rest.Call) ∷
    (place.Next, (class.Is s.Theorem), role.TheoremCall, rest.Call) ∷
    (place.Next, (class.Is s.Lemma), role.TheoremCall, rest.Call) ∷
    (place.Next, (class.Is s.Induction), role.Sign, rest.InductionOrHypothesis) ∷
    (place.Next, (class.Is s.Case), role.Cases, rest.Analysis) ∷
    (place.Next, (class.Is s.Contradiction), role.Contradiction, rest.OnArg) ∷
    (place.Next, (class.Is s.Weakening), role.Weakening, rest.OnName) ∷
    (place.Next, (class.Is s.Exchange), role.Exchange, rest.OnName) ∷
    (place.Next, (class.Is s.Substitution), role.Substitution, rest.OnTwoNames) ∷
    (place.Next, (class.Is s.Unproved), role.Unproved, rest.Nothing) ∷
    (place.Next, (class.Is s.Name), role.NameAlone, rest.Nothing) ∷ []
alternatives p.InductionOrHypothesis =
    (place.Next, (class.Is s.Hypothesis), role.HypothesisCall, rest.Args) ∷
    (place.Next, (class.Is s.On), role.Induction, rest.Induction) ∷ []
alternatives p.Args = (place.Next, (class.Is s.On), role.Sign, rest.Arg) ∷ []
alternatives p.MoreArgs = (place.Next, (class.Is s.Comma), role.Sign, rest.OneArg) ∷ []
alternatives p.Arg =
    (place.Next, (class.Is s.Name), role.ArgName, rest.Nothing) ∷
    (place.Next, (class.Is s.Open), role.Sign, rest.Enclosed) ∷ []
alternatives p.Enclosed =
    (place.Next, class.ButParenthesis, role.ArgForm, rest.MoreEnclosed) ∷
    (place.Next, (class.Is s.Open), role.ArgForm, rest.FirstNested) ∷ []
alternatives p.MoreEnclosed =
    (place.Next, class.ButParenthesis, role.More, rest.Nothing) ∷
    (place.Next, (class.Is s.Open), role.More, rest.Nested) ∷ []
alternatives p.CaseList = (place.First, (class.Is s.Case), role.CaseWord, rest.Case) ∷ []
alternatives p.CaseHead =
    (place.Next, (class.Is s.Rule), role.RuleCase, rest.RuleHead) ∷
    (place.Next, class.Formed, role.Form, rest.TermHead) ∷ []
alternatives p.CaseAssumes = (place.Next, (class.Is s.Assumes), role.Sign, rest.AssumedForm) ∷ []
alternatives p.HeadLines =
    (place.First, (class.Is s.Name), role.HeadName, rest.HeadPremise) ∷
    (place.First, (class.Is s.Bar), role.Sign, rest.HeadBar) ∷ []
alternatives p.Inverted = []

-- the symbols that an alternative has after its first token
abbrev pub items : Rest → List Item
items rest.Nothing = []
items rest.Terminals = In part.Terminals (One place.Next class.Listed role.Item) ∷ In part.Terminals (Choice p.MoreListed) ∷ []
items rest.Syntax = In part.Syntax (One place.First (class.Is s.Name) role.CategoryName) ∷ In part.Syntax (Choice p.FirstDefine) ∷ []
items rest.Judgment = In part.Judgment (One place.Next (class.Is s.Name) role.Name) ∷ In part.Judgment (One place.Next (class.Is s.Colon) role.Sign) ∷ In part.Judgment (One place.Next class.Formed role.Form) ∷ In part.Judgment (Choice p.MoreOnLine) ∷ In part.Judgment (Choice p.JudgmentAssumes) ∷ In part.Judgment (Choice p.Rules) ∷ []
items rest.FirstTheorem = In part.Theorem (Choice p.TheoremBody) ∷ Here (Choice p.LaterParts) ∷ []
items rest.FirstLemma = In part.Lemma (Choice p.LemmaBody) ∷ Here (Choice p.LaterParts) ∷ []
items rest.Theorem = In part.Theorem (Choice p.TheoremBody) ∷ []
items rest.Lemma = In part.Lemma (Choice p.LemmaBody) ∷ []
items rest.And = In part.Theorem (Choice p.AndKind) ∷ []
items rest.TheoremBody = Here (One place.Anywhere (class.Is s.Colon) role.Sign) ∷ Here (Choice p.TheoremAssumes) ∷ Here (Choice p.Inputs) ∷ Here (One place.Anywhere (class.Is s.Exists) role.Sign) ∷ Here (Choice p.Output) ∷ Here (Choice p.Proof) ∷ Here (One place.First (class.Is s.End) role.EndWord) ∷ Here (One place.Next (class.Is s.Theorem) role.EndTheorem) ∷ []
items rest.LemmaBody = Here (One place.Anywhere (class.Is s.Colon) role.Sign) ∷ Here (Choice p.TheoremAssumes) ∷ Here (Choice p.Inputs) ∷ Here (One place.Anywhere (class.Is s.Exists) role.Sign) ∷ Here (Choice p.Output) ∷ Here (Choice p.Proof) ∷ Here (One place.First (class.Is s.End) role.EndWord) ∷ Here (One place.Next (class.Is s.Lemma) role.EndLemma) ∷ []
items rest.Productions = Here (Choice p.Productions) ∷ []
items rest.AfterLineName = Here (Choice p.AfterLineName) ∷ []
items rest.AfterLineToken = Here (Choice p.AfterLineToken) ∷ []
items rest.AssumedName = Here (One place.Next (class.Is s.Name) role.Assumed) ∷ []
items rest.AssumedTheorem = Here (One place.Anywhere (class.Is s.Name) role.Assumed) ∷ []
items rest.RuleLines = Here (Choice p.MoreOnLine) ∷ Here (Choice p.RuleLines) ∷ []
items rest.BarLine = Here (One place.Next (class.Is s.Name) role.Name) ∷ Here (One place.First class.Formed role.Form) ∷ Here (Choice p.MoreOnLine) ∷ []
items rest.Input = Here (One place.Anywhere (class.Is s.Name) role.InputName) ∷ Here (Choice p.InputForm) ∷ []
items rest.InputForm = Here (One place.Anywhere class.Formed role.Form) ∷ Here (Choice p.MoreOfForm) ∷ []
items rest.OutputTokens = Here (Choice p.OutputTokens) ∷ Here (One place.Anywhere (class.Is s.Dot) role.More) ∷ Here (Choice p.OutputGoesOn) ∷ []
items rest.OutputAfterDot = Here (Choice p.OutputAfterDot) ∷ []
items rest.OutputGoesOn = Here (Choice p.OutputGoesOn) ∷ []
items rest.Use = Here (One place.Next (class.Is s.Induction) role.Sign) ∷ Here (One place.Next (class.Is s.On) role.Sign) ∷ Here (One place.Next (class.Is s.Name) role.Target) ∷ Here (Choice p.MoreTargets) ∷ Here (Choice p.Steps) ∷ []
items rest.Target = Here (One place.Next (class.Is s.Name) role.Target) ∷ []
items rest.FirstStep = Here (One place.Next (class.Is s.Colon) role.Sign) ∷ Here (One place.Anywhere class.Formed role.Form) ∷ Here (Choice p.MoreOfForm) ∷ Here (One place.Anywhere (class.Is s.By) role.Sign) ∷ Here (Choice p.FirstJust) ∷ Here (Choice p.Steps) ∷ []
items rest.FirstProofStep = Here (One place.Next (class.Is s.By) role.Sign) ∷ Here (Choice p.FirstJust) ∷ Here (Choice p.Steps) ∷ []
items rest.Step = Here (One place.Next (class.Is s.Colon) role.Sign) ∷ Here (One place.Anywhere class.Formed role.Form) ∷ Here (Choice p.MoreOfForm) ∷ Here (One place.Anywhere (class.Is s.By) role.Sign) ∷ Here (Choice p.Just) ∷ Here (Choice p.Steps) ∷ []
items rest.ProofStep = Here (One place.Next (class.Is s.By) role.Sign) ∷ Here (Choice p.Just) ∷ Here (Choice p.Steps) ∷ []
items rest.Inversion = In part.Inversion (One place.Next (class.Is s.On) role.Sign) ∷ In part.Inversion (Choice p.Arg) ∷ In part.Inversion (Choice p.HeadLines) ∷ In part.Inversion (One place.First (class.Is s.Is) role.Sign) ∷ Here (Choice p.Steps) ∷ Here (Choice p.Inverted) ∷ []
items rest.Call = Here (One place.Next (class.Is s.Name) role.Name) ∷ Here (Choice p.Args) ∷ []
items rest.Hypothesis = Here (One place.Next (class.Is s.Hypothesis) role.HypothesisCall) ∷ Here (Choice p.Args) ∷ []
items rest.InductionOrHypothesis = Here (Choice p.InductionOrHypothesis) ∷ []
items rest.Args = Here (Choice p.Args) ∷ []
items rest.Analysis = Here (One place.Next (class.Is s.Analysis) role.Sign) ∷ Here (One place.Next (class.Is s.On) role.Sign) ∷ Here (Choice p.Arg) ∷ Here (One place.Next (class.Is s.Colon) role.Sign) ∷ In part.CaseAnalysis (Choice p.CaseList) ∷ In part.CaseAnalysis (One place.First (class.Is s.End) role.EndWord) ∷ In part.CaseAnalysis (One place.Next (class.Is s.Case) role.Sign) ∷ In part.CaseAnalysis (One place.Next (class.Is s.Analysis) role.EndAnalysis) ∷ []
items rest.Induction = Here (Choice p.Arg) ∷ Here (One place.Next (class.Is s.Colon) role.Sign) ∷ In part.Induction (Choice p.CaseList) ∷ In part.Induction (One place.First (class.Is s.End) role.EndWord) ∷ In part.Induction (One place.Next (class.Is s.Induction) role.EndInduction) ∷ []
items rest.OnArg = Here (One place.Next (class.Is s.On) role.Sign) ∷ Here (Choice p.Arg) ∷ []
items rest.OnName = Here (One place.Next (class.Is s.On) role.Sign) ∷ Here (One place.Next (class.Is s.Name) role.Name) ∷ []
items rest.OnTwoNames = Here (One place.Next (class.Is s.On) role.Sign) ∷ Here (One place.Next (class.Is s.Name) role.Name) ∷ Here (One place.Next (class.Is s.Comma) role.Sign) ∷ Here (One place.Next (class.Is s.Name) role.SecondName) ∷ []
items rest.Arg = Here (Choice p.Arg) ∷ Here (Choice p.MoreArgs) ∷ []
items rest.OneArg = Here (Choice p.Arg) ∷ []
items rest.Enclosed = Here (Choice p.Enclosed) ∷ Here (One place.Next (class.Is s.Close) role.Sign) ∷ []
items rest.MoreEnclosed = Here (Choice p.MoreEnclosed) ∷ []
items rest.Nested = Here (Choice p.MoreEnclosed) ∷ Here (One place.Next (class.Is s.Close) role.More) ∷ []
items rest.FirstNested = Here (Choice p.MoreEnclosed) ∷ Here (One place.Next (class.Is s.Close) role.More) ∷ Here (Choice p.MoreEnclosed) ∷ []
items rest.Case = In part.Case (Choice p.CaseHead) ∷ In part.Case (Choice p.Steps) ∷ In part.Case (One place.First (class.Is s.End) role.EndWord) ∷ In part.Case (One place.Next (class.Is s.Case) role.EndCase) ∷ []
items rest.RuleHead = Here (Choice p.HeadLines) ∷ Here (One place.First (class.Is s.Is) role.Sign) ∷ []
items rest.TermHead = Here (Choice p.MoreOnLine) ∷ Here (Choice p.CaseAssumes) ∷ Here (One place.Next (class.Is s.Is) role.Sign) ∷ []
items rest.AssumedForm = Here (One place.Next class.Formed role.AssumedForm) ∷ Here (Choice p.MoreOnLine) ∷ []
items rest.HeadPremise = Here (One place.Next (class.Is s.Colon) role.Sign) ∷ Here (One place.Next class.Formed role.Form) ∷ Here (Choice p.MoreOnLine) ∷ Here (Choice p.HeadLines) ∷ []
items rest.HeadBar = Here (One place.Next (class.Is s.Name) role.Name) ∷ Here (One place.First (class.Is s.Name) role.HeadConclusion) ∷ Here (One place.Next (class.Is s.Colon) role.Sign) ∷ Here (One place.Next class.Formed role.Form) ∷ Here (Choice p.MoreOnLine) ∷ []
