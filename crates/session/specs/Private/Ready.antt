-- The bounds that the stages' sums need, of a state that 15 lets pass. Assumes nothing.
use Rattle.std.specs.Prelude.{◌<◌}
use Rattle.session.specs.declared.Session.{Session}

pub record Ready (s : Session) : Type 0 where
  pub sent_small : s.sent < 4294967295
  pub polls_small : s.position.polls < 65535
  pub config_small : s.position.config.0 < 8
  pub configs_small : s.file.configs < 9
