-- `contracted` meets its contract: both ends of the edges have moved to the lowest of the nodes.
-- Assumes nothing.
use mathlib.Core.Path.{refl, ◌∙◌}
use borrow.Author.Rules.{rules}
use Rattle.network.specs.Record.{Stored}
use Rattle.contraction.proofs.contracted.Goals as goal

pub returns : goal.returns
returns c =
    let was : Stored c.args.network = search rules in
    record {
      sink = c.lowest-sink.ensures;
      nodes = refl;
      source = refl;
      edges = refl;
      first = c.moved-first.ensures;
      second = c.moved-second.ensures;
      metres = refl;
      stored = record {
        firsts = c.moved-first.ensures.size ∙ was.firsts;
        seconds = c.moved-second.ensures.size ∙ was.seconds;
        lengths = was.lengths;
        edges = was.edges;
      };
    }
