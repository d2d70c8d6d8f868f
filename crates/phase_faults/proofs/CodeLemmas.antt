-- The codes of faults.
use Rattle.std.proofs.Common.{ℕ, List, inl, inr}
use Rattle.binding_terms.specs.Signature.{Signature}
use Rattle.sy_base.specs.Tokens.{PlainToken}
use Rattle.sy_base.specs.declared.fault.Code.{Code}
use Rattle.outline_reader.specs.Plain.{PlainPortion}
use Rattle.scheme_terms.specs.Forms.{Names}
use Rattle.rule_schemes.specs.Rules.{Theory}
use Rattle.rule_schemes.specs.declared.rule.Judgment.{Judgment}
use Rattle.phase_faults.specs.Written.{WrittenRule, WrittenTheorem}
use Rattle.phase_faults.specs.FormFaults.{IsFormFault, too_many_entries, too_long, no_reading, ambiguous, root_mismatch}
use Rattle.phase_faults.specs.JudgmentFaults as judged
use Rattle.phase_faults.specs.StatementFaults as stated
use Rattle.phase_faults.specs.Laws.{judgment_codes, statement_codes, IsCodeOf, JudgmentsHaveTheirCodes, StatementsHaveTheirCodes}

-- the code of a form is one of judgments and rules
form_of_rule : {sig : Signature} {js : List Judgment} {telling : List (List PlainToken)} {names : Names} {form : List PlainToken} {found : Code} {token : PlainToken} {detail : List ℕ} →
    IsFormFault sig js telling names form found token detail → IsCodeOf judgment_codes found
form_of_rule (too_many_entries j is d t r m) = inl is
form_of_rule (too_long is d t m) = inr (inr (inr (inr (inr (inl is)))))
form_of_rule (no_reading is d t u) = inr (inr (inr (inr (inr (inr (inl is))))))
form_of_rule (ambiguous a b is d t two) = inr (inr (inr (inr (inr (inr (inr (inl is)))))))
form_of_rule (root_mismatch j is d t r w) = inr (inr (inr (inr (inr (inr (inr (inr (inr (inr (inr (inr (inl is))))))))))))

-- the code of a form is one of statements
form_of_statement : {sig : Signature} {js : List Judgment} {telling : List (List PlainToken)} {names : Names} {form : List PlainToken} {found : Code} {token : PlainToken} {detail : List ℕ} →
    IsFormFault sig js telling names form found token detail → IsCodeOf statement_codes found
form_of_statement (too_many_entries j is d t r m) = inl is
form_of_statement (too_long is d t m) = inr (inr (inr (inr (inl is))))
form_of_statement (no_reading is d t u) = inr (inr (inr (inr (inr (inl is)))))
form_of_statement (ambiguous a b is d t two) = inr (inr (inr (inr (inr (inr (inl is))))))
form_of_statement (root_mismatch j is d t r w) = inr (inr (inr (inr (inr (inr (inr (inr (inr (inr (inr (inl is)))))))))))

of_declaration : {portions : List PlainPortion} {found : Code} {token : PlainToken} {detail : List ℕ} →
    judged.IsDeclarationFault portions found token detail → IsCodeOf judgment_codes found
of_declaration (judged.unknown_word w is d h u) = inr (inr (inl is))
of_declaration (judged.bad_binder w is d h b) = inr (inr (inr (inl is)))
of_declaration (judged.bad_context w is t h b) = inr (inr (inr (inr (inl is))))
of_declaration (judged.too_long w is d t h m) = inr (inr (inr (inr (inr (inl is)))))

of_rule : {written : List WrittenRule} {th : Theory} {found : Code} {token : PlainToken} {detail : List ℕ} →
    judged.IsRuleFault written th found token detail → IsCodeOf judgment_codes found
of_rule (judged.too_many_parameters text is d h n) = inl is
of_rule (judged.duplicate is d a) = inr (inl is)
of_rule (judged.of_form text form metas root h k n r fault) = form_of_rule fault
of_rule (judged.other_judgment text rule is d t r e) = inr (inr (inr (inr (inr (inr (inr (inr (inl is))))))))
of_rule (judged.bad_conclusion text rule is d t r e) = inr (inr (inr (inr (inr (inr (inr (inr (inl is))))))))
of_rule (judged.no_parameters text is t h u) = inr (inr (inr (inr (inr (inr (inr (inr (inr (inl is)))))))))
of_rule (judged.not_strict text rule is t r u) = inr (inr (inr (inr (inr (inr (inr (inr (inr (inl is)))))))))
of_rule (judged.needs_context text rule is t r m) = inr (inr (inr (inr (inr (inr (inr (inr (inr (inr (inl is))))))))))
of_rule (judged.two_assumptions text is t s) = inr (inr (inr (inr (inr (inr (inr (inr (inr (inr (inr (inl is)))))))))))

pub judgments_have_codes : JudgmentsHaveTheirCodes
judgments_have_codes portions sig found token detail (inl fault) = inr (inl fault.0)
judgments_have_codes portions sig found token detail (inr (inl fault)) = of_declaration fault
judgments_have_codes portions sig found token detail (inr (inr fault)) = of_rule (fault.1).stands

of_statement : {written : List WrittenTheorem} {th : Theory} {found : Code} {token : PlainToken} {detail : List ℕ} →
    stated.IsStatementFault written th found token detail → IsCodeOf statement_codes found
of_statement (stated.too_many_parameters text is d h n) = inl is
of_statement (stated.duplicate is d a) = inr (inl is)
of_statement (stated.unknown_word text is d h i n) = inr (inr (inl is))
of_statement (stated.spelled_name text is d h n) = inr (inr (inr (inl is)))
of_statement (stated.taken_name text is d h n) = inr (inr (inr (inl is)))
of_statement (stated.of_form text form metas root h k n r fault) = form_of_statement fault
of_statement (stated.no_parameters text is t h u) = inr (inr (inr (inr (inr (inr (inr (inl is)))))))
of_statement (stated.not_strict text st is t j u) = inr (inr (inr (inr (inr (inr (inr (inl is)))))))
of_statement (stated.needs_context text st is t j m) = inr (inr (inr (inr (inr (inr (inr (inr (inl is))))))))
of_statement (stated.target_count text is d t u) = inr (inr (inr (inr (inr (inr (inr (inr (inr (inl is)))))))))
of_statement (stated.no_name text is d h n) = inr (inr (inr (inr (inr (inr (inr (inr (inr (inr (inl is))))))))))

pub statements_have_codes : StatementsHaveTheirCodes
statements_have_codes portions sig found token detail fault = of_statement fault.stands
