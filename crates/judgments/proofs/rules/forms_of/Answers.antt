use Rattle.judgments.proofs.rules.forms_of.Goals as goal

pub returns-in-None-2 : goal.returns-in-None-2
returns-in-None-2 c = let none = rw (c.in-None-2.is, c.sig-in-Some.ensures, c.judgments-in-Some.ensures) at c.in_ok-conclusion-in-Some.ensures in λ js j h k. none j k
