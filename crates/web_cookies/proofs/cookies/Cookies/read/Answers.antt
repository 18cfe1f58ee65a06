-- The text is that of what goes out.
use Rattle.std.specs.Prelude.{string_bytes}
use Rattle.web_cookies.specs.Uses.{plain_use}
use Rattle.web_cookies.proofs.PreparedLemmas.{read_done}
use Rattle.web_cookies.proofs.cookies.Cookies.read.Goals as goal

pub returns : goal.returns
returns c = record {
  done = read_done c.args.input.now.list.now.rules c.args.input.now.clock (plain_use c.args.how.now) c.args.self.now (string_bytes c.in_ok-text.field-0.text) c.in_ok-text.ensures.sending.text;
}
