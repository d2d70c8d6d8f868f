use Rattle.std.proofs.Common.{◌<◌, ◌≤◌, length, map, get_or, arith}
use Rattle.std.proofs.lemmas.List.{length-map}
use Rattle.term_reader.specs.Charting.{charted}
use Rattle.term_reader.specs.View.{token}
use Rattle.term_reader.proofs.ChartSteps.{no_name, no_brackets_there}
use Rattle.term_reader.proofs.SplitLemmas.{no_token}
use Rattle.term_reader.proofs.chart.Form.is_named.Goals as goal
use Rattle.binding_terms.proofs.Lists.{get_mapped_or}

pub returns-then-has_brackets : goal.returns-then-has_brackets
returns-then-has_brackets c e =
    let tokens = c.args.self.now.tokens.now in
    let h : c.args.to ≤ length (map token tokens) = omega (arith, c.requires.1, length-map tokens token) in
    let lt : c.args.from < length tokens = omega (arith, c.requires.0, c.requires.1) in
    no_name (charted c.args.self.now) c.args.cat c.args.from c.args.to (token (get_or tokens c.args.from no_token)) c.is_name.result h
    (get_mapped_or token tokens c.args.from no_token lt) c.is_name.ensures e

pub returns-else-has_brackets : goal.returns-else-has_brackets
returns-else-has_brackets c e =
    let tokens = c.args.self.now.tokens.now in
    let h : c.args.to ≤ length (map token tokens) = omega (arith, c.requires.1, length-map tokens token) in
    no_brackets_there (charted c.args.self.now) c.args.cat c.args.from c.args.to c.has_brackets.result h c.has_brackets.ensures e
