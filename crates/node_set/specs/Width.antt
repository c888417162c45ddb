-- How many nodes (points) a network can have.
-- To believe.
--
--   node_width       the most points of a plan; a set of points has a bit for each
use Rattle.std.specs.Prelude.{ℕ}

abbrev pub node_width : ℕ
node_width = 64
