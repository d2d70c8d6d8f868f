-- What contracts see of what is wanted and of what a form says. Held against docs/notation.md on readings.
use Rattle.std.specs.Prelude.{map}
use Rattle.scheme_terms.specs.View.{scheme, scheme_context, known_variable, names}
use Rattle.rule_schemes.specs.Reading.{Fresh, not_fresh, fresh_names, fresh_head, ReadingScope}
use Rattle.rule_schemes.specs.Said as said
use Rattle.rule_schemes.specs.View.{judgment_scheme}
use Rattle.term_reader.specs.View.{scope_words}
use Rattle.rule_schemes.specs.declared.reading.Want.{Want}
use Rattle.rule_schemes.specs.declared.reading.Want.TheVariants as wants
use Rattle.rule_schemes.specs.declared.reading.Fresh as of_fresh
use Rattle.rule_schemes.specs.declared.reading.Fresh.TheVariants as freshness
use Rattle.rule_schemes.specs.declared.reading.ReadScope.{ReadScope}
use Rattle.rule_schemes.specs.declared.reading.Written.{Written}
use Rattle.rule_schemes.specs.declared.reading.Written.TheVariants as writings
use Rattle.rule_schemes.specs.declared.reading.Said.{Said}
use Rattle.notation_parser.specs.Ordered.{WrittenForm}
use Rattle.notation_parser.specs.declared.outcomes.Outcome.{Outcome}

abbrev pub wanted : Want → said.Want
wanted (wants.Term c) = said.want_term c.0
wanted wants.Judgment = said.want_judgment
wanted (wants.Context c) = said.want_context c.0

abbrev pub freshness_of : of_fresh.Fresh → Fresh
freshness_of freshness.No = not_fresh
freshness_of freshness.Names = fresh_names
freshness_of freshness.Head = fresh_head

abbrev pub reading_scope : ReadScope → ReadingScope
reading_scope s =
    record {
      names = names s.scope;
      vars = scope_words s.vars;
      fresh = freshness_of s.fresh;
    }

abbrev pub written : Written → said.Written
written (writings.Term s) = said.a_term (scheme s)
written (writings.Judgment j) = said.a_judgment (judgment_scheme j)
written (writings.Context c) = said.a_context (scheme_context c)

abbrev pub what_is_said : Said → said.Said
what_is_said s = record { written = written s.written; metas = s.metas; knowns = map known_variable s.knowns }

abbrev pub outcome : Outcome → WrittenForm
outcome o = (written o.written, map known_variable o.knowns)
