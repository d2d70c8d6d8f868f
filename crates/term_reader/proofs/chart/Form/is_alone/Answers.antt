use Rattle.std.proofs.Common.{◌<◌, ◌≤◌, length, map, get_or, arith}
use Rattle.std.proofs.lemmas.List.{length-map}
use Rattle.term_reader.specs.Charting.{charted}
use Rattle.term_reader.specs.View.{token}
use Rattle.term_reader.proofs.ChartSteps.{more_than_one, no_variable}
use Rattle.term_reader.proofs.SplitLemmas.{no_token}
use Rattle.term_reader.proofs.chart.Form.is_alone.Goals as goal
use Rattle.binding_terms.proofs.Lists.{get_mapped_or}

pub returns-then-to-from : goal.returns-then-to-from
returns-then-to-from c e =
    let tokens = c.args.self.now.tokens.now in
    let h : c.args.to ≤ length (map token tokens) = omega (arith, c.requires.1, length-map tokens token) in
    more_than_one (charted c.args.self.now) c.args.cat c.args.from c.args.to h c.if-to-from.true

pub returns : goal.returns
returns c e =
    let tokens = c.args.self.now.tokens.now in
    let h : c.args.to ≤ length (map token tokens) = omega (arith, c.requires.1, length-map tokens token) in
    let lt : c.args.from < length tokens = omega (arith, c.requires.0, c.requires.1) in
    no_variable (charted c.args.self.now) c.args.cat c.args.from c.args.to (token (get_or tokens c.args.from no_token)) c.is_variable.result h
    (get_mapped_or token tokens c.args.from no_token lt) c.is_variable.ensures e
