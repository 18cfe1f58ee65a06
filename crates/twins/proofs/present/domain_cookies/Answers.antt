-- The unpartitioned cookies are the cells of the world.
use Rattle.std.proofs.Common.{◌≡◌, subst}
use Rattle.std.specs.Prelude.{IfOk}
use Rattle.unwinding.specs.FiniteCells.{get_cell}
use Rattle.agent_model.specs.CookieCells.{domain_order}
use Rattle.web_cookies.specs.Stored.{shared_in}
use Rattle.one_store.specs.WholeWorld.{whole_world}
use Rattle.agent_memory.specs.AgentState.{world_of}
use Rattle.twins.proofs.present.domain_cookies.Goals as goal

pub returns : goal.returns
unfolding world_of whole_world
returns c =
    record {
      cookies = subst (λ cookies. IfOk c.domain_cookies.result
          (λ jar. jar.cookies ≡ get_cell domain_order (shared_in cookies) c.args.domain.now)) c.cookies.ensures.cookies
          c.domain_cookies.ensures.cookies;
    }
