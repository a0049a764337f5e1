-- Both lines of every configuration lie inside the file (request R-9): it follows from n = 12 + s x k, for both kinds. So no file
-- needs a number for a line past its end, and 12 is unused. Assumes nothing.
use Rattle.std.specs.Prelude.{ℕ, ◌≤◌, ◌<◌}
use Rattle.counts.specs.declared.Kind.{Kind}
use Rattle.counts.specs.Counts.{config_number, line_count, identifier_line, crc_line}

-- of configuration N, in a file of k configurations
pub record Inside (kind : Kind) (k N : ℕ) : Type 0 where
  pub id : N < k → (identifier_line kind (config_number N)).0 ≤ line_count kind k
  pub crc : N < k → (crc_line kind (config_number N)).0 ≤ line_count kind k
