-- A site that begins with what is durable of it, worked out by hand: a local area has the pair of `k`
-- and `v`, and the cookies of its domain are `p=1`, which has an expiry. Its own machine is given a
-- load and then a line that reads.
-- Source: Storage Standard, "Model" (a local bucket outlives the session); RFC 6265bis, "Storage
-- Model" (the persistent-flag) and "Retrieval Model"; HTML, "Web storage", `getItem`, and
-- `document.cookie`.
-- Our own choice: a restart opens no tab, and no cookie counts as used after it.
use Rattle.std.proofs.Common.{◌≡◌, Bool, true, false, ◌&&◌, ◌||◌, pos, List, [], ◌∷◌, ◌++◌, Option, Some, None, take, refl, ap, ◌∙◌}
use Rattle.std.specs.Cmp.{nat_cmp_total}
use Rattle.std.specs.FinMap as finite
use Rattle.std.specs.FinMap.{get-empty, get-insert}
use Rattle.std.specs.Ordering.{nat_cmp}
use Rattle.std.specs.Prelude.{bytes_eq, codes, is_some}
use Rattle.unwinding.specs.FiniteCells.{get_cell, list_of, restrict_cells, set_cell}
use Rattle.unwinding.specs.LocalEntries.{Entry}
use Rattle.unwinding.specs.LocalScript.{Beginning, Happens, Restarts}
use Rattle.unwinding.specs.OneSite.{OwnState, own_reply, own_step, reply_list}
use Rattle.unwinding.specs.SiteRun.{begun}
use Rattle.unwinding.specs.World.{consulted, is_in}
use Rattle.unwinding.proofs.FiniteCellsLemmas as cells
use Rattle.storage_key.specs.Key.{key_order}
use Rattle.storage_key.proofs.OrderLemmas.{key_order_same, key_order_total}
use Rattle.local_area.specs.Area.{area_get}
use Rattle.storage_events.specs.declared.event.AreaKind.TheVariants.{Local, Session}
use Rattle.access_grants.specs.Grant.{PlainGrant}
use Rattle.frame_tree.specs.Calls.{opened}
use Rattle.live_state.specs.Tabs.{PlainTab, made_tab}
use Rattle.stored_cookie.specs.StoredCookie.{PlainCookie}
use Rattle.cookie_jar.specs.Sending.{joined}
use Rattle.script_actions.specs.Action.{Cookie, DocumentAction, Get}
use Rattle.script_actions.specs.declared.words.Method.TheVariants as method
use Rattle.reply_lines.specs.Reply as reply
use Rattle.agent_model.specs.Buckets.{is_persistent}
use Rattle.agent_model.specs.CookieCells.{CookieCells, Cookies, Domain, domain_order, is_home, no_cookies}
use Rattle.agent_model.specs.CookieStore.{BothCells, both_marked, header_text, sent}
use Rattle.agent_model.specs.CookieUses.{script_use, top_use}
use Rattle.agent_model.specs.Effects.{SharedCells}
use Rattle.agent_model.specs.Partition.{area_of, no_holdings, Partition, session_order, tab_named}
use Rattle.agent_model.specs.PartitionedCells.{PartitionedKey, partitioned_order}
use Rattle.agent_model.specs.SiteEvent.{Acts, Answer, Arrives, Opens, SiteEvent, TimedEvent}
use Rattle.agent_model.specs.SiteStep.{act, site_step}
use Rattle.agent_model.specs.Consults.{names_at}
use Rattle.agent_model.specs.TheMachine.{machine}
use Rattle.agent_model.proofs.CookieCellsLemmas.{get_merge, get_restrict, get_set}
use Rattle.agent_model.proofs.CookieRunFacts.{cookie, nothing_partitioned, reader}
use Rattle.agent_model.proofs.PartitionedLemmas.{partitioned_order_same, partitioned_order_total}
use Rattle.agent_model.proofs.StandardFacts.{a, address, at_frame, at_seven, site, widget}
use Rattle.agent_model.proofs.StorageFacts.{k, key_a, pairs, v}
use Rattle.durable_model.specs.Histories.{SiteHistory, history_run}
use Rattle.durable_model.specs.Keeping.{keeping, partition_again}
use Rattle.durable_model.specs.Saved.{SiteRows, no_rows}

-- ---- what is kept

-- the cookie as it outlives a restart, and used at second 7
abbrev kept : PlainCookie
kept = record (cookie (codes "p")) { expiry = Some (pos 100); last = pos 0 }

abbrev used : PlainCookie
used = record kept { last = pos 7 }

-- its last use does not outlive a restart, and a cookie without an expiry does not at all
what_is_kept : keeping.cell_kept a (cookie (codes "s") ∷ used ∷ []) ≡ kept ∷ []
unfolding keeping
what_is_kept = refl

-- the partitioned cell of the domain under its own site
abbrev under_a : PartitionedKey
under_a = record { top = site a; bit = false; domain = a }

-- what the site begins with
abbrev rows : SiteRows
rows = record no_rows { areas = set_cell key_order key_a pairs no_rows.areas }

abbrev home : CookieCells
home = set_cell domain_order a (kept ∷ []) no_cookies

abbrev starts : Beginning SiteRows CookieCells
starts = record { partition = rows; cells = home }

-- no tab is open there
no_tab_open : tab_named 1 (partition_again (site a) rows).held ≡ None
unfolding no_holdings
no_tab_open = get-empty nat_cmp 1

-- so is no session area, and what else was kept is there: a permission, the mode of a bucket, and the
-- cookies of a partitioned cell
no_session_area : area_of Session 1 key_a (partition_again (site a) rows).held ≡ []
unfolding get_cell no_holdings
no_session_area = ap list_of (get-empty session_order (1, key_a))

abbrev permission : PlainGrant
permission = record { top = site a; site = site widget; granted = true; until = pos 2592007 }

permission_stays : (partition_again (site a) (record no_rows { grants = permission ∷ [] })).held.grants ≡ permission ∷ []
permission_stays = refl

mode_stays : is_persistent key_a (partition_again (site a) (record no_rows { persistent = finite.insert no_rows.persistent key_a tt })).held ≡ true
mode_stays = ap is_some (get-insert key_order_total no_rows.persistent key_a tt key_a)

cell_stays : get_cell partitioned_order (partition_again (site a) (record no_rows { cookies = set_cell partitioned_order under_a (kept ∷ []) no_rows.cookies })).held.cookies under_a ≡ kept ∷ []
cell_stays = cells.get_set partitioned_order partitioned_order_total partitioned_order_same under_a under_a (kept ∷ []) no_rows.cookies

-- ---- the load

abbrev comes : SiteEvent
comes = Arrives Opens 1 (address a) method.Get true []

abbrev entry : SiteEvent → Entry Domain Cookies TimedEvent
entry event = record { event = at_seven event; held = [] }

abbrev first : OwnState SharedCells Partition
first = (begun (machine []) keeping (site a) starts).own

abbrev second : OwnState SharedCells Partition
second = own_step (machine []) (site a) first (entry comes)

-- which of the shared cells the load sees, and of them the cookies of the domain
abbrev asked : Domain → Bool
asked = consulted (machine []) (site a) first.partition (at_seven comes)

home_seen : get_cell domain_order (restrict_cells domain_order asked home) a ≡ kept ∷ []
unfolding machine
home_seen = get_restrict asked home a ∙ get_set a a (kept ∷ []) no_cookies

-- both cells of the domain, as the load finds them
none_partitioned : get_cell partitioned_order (partition_again (site a) rows).held.cookies under_a ≡ []
unfolding no_rows no_holdings
none_partitioned = nothing_partitioned under_a

abbrev both : Cookies → Cookies → BothCells
both own partition = record { own = own; partition = partition }

-- it is sent the cookie that was kept
load_sends : own_reply (machine []) (site a) first (entry comes) ≡ record { name = codes "open"; body = reply.Load (Some (codes "p=1")) [] } ∷ []
unfolding own_reply machine keeping site_step
load_sends = λ i. record { name = codes "open"; body = reply.Load (header_text (sent 7 (top_use (site a) (address a) method.Get true) (both (home_seen i) (none_partitioned i)))) [] } ∷ []

-- ---- what the site has then

abbrev shows : PlainTab
shows = made_tab 1 (opened [] (address a)) None None

tab_there : tab_named 1 second.partition.held ≡ Some shows
unfolding own_step machine keeping site_step no_holdings
tab_there = get-insert nat_cmp_total no_holdings.tabs 1 shows 1

area_there : area_of Local 1 key_a second.partition.held ≡ pairs
unfolding own_step machine keeping site_step
area_there = cells.get_set key_order key_order_total key_order_same key_a key_a pairs no_rows.areas

-- the cookie counts as used
own_there : get_cell domain_order second.cells a ≡ used ∷ []
unfolding own_step machine keeping site_step
own_there =
    get_merge (λ domain. is_home (site a) domain && asked domain) _ home a
    ∙ get_set a a _ (restrict_cells domain_order asked home)
    ∙ λ i. (both_marked 7 (top_use (site a) (address a) method.Get true) (both (home_seen i) (none_partitioned i))).own

partition_there : get_cell partitioned_order second.partition.held.cookies under_a ≡ []
unfolding own_step machine keeping site_step
partition_there =
    cells.get_set partitioned_order partitioned_order_total partitioned_order_same under_a under_a _ (partition_again (site a) rows).held.cookies
    ∙ λ i. (both_marked 7 (top_use (site a) (address a) method.Get true) (both (home_seen i) (none_partitioned i))).partition

-- ---- a line that reads

-- which cells a line in tab 1 sees
abbrev seen : DocumentAction → Option PlainTab → SharedCells
seen action tab = restrict_cells domain_order (λ domain. is_in bytes_eq domain (names_at [] (site a) (at_frame 1 0) action tab) || (false && false)) second.cells

abbrev answered : DocumentAction → Option PlainTab → List Answer
answered action tab = reply_list (machine []) (act [] 7 (at_frame 1 0) action tab (seen action tab) second.partition).reply

area_is_read : own_reply (machine []) (site a) second (entry (Acts (at_frame 1 0) (Get Local k))) ≡ record { name = codes "get"; body = reply.Text (Some v) } ∷ []
unfolding own_reply machine site_step
area_is_read = ap (answered (Get Local k)) tab_there ∙ ap (λ found. record { name = codes "get"; body = reply.Text (area_get k found) } ∷ []) area_there

cookie_is_read : own_reply (machine []) (site a) second (entry (Acts (at_frame 1 0) Cookie)) ≡ record { name = codes "cookie"; body = reply.Cookie (codes "p=1") } ∷ []
unfolding own_reply own_step machine keeping site_step
cookie_is_read =
    ap (answered Cookie) tab_there
    ∙ (λ i. record { name = codes "cookie"; body = reply.Cookie (joined (sent 7 (script_use (site a) reader) (both (found i) (partition_there i)))) } ∷ [])
  where
    found : get_cell domain_order (seen Cookie (Some shows)) a ≡ used ∷ []
    found = get_restrict (λ domain. is_in bytes_eq domain (a ∷ []) || (false && false)) second.cells a ∙ own_there

-- ---- the runs

-- a load and then this line, all acknowledged
abbrev run_of : DocumentAction → SiteHistory
run_of action =
    record {
      rules = [];
      script = record {
        beginning = starts;
        items = Happens (entry comes) ∷ Happens (entry (Acts (at_frame 1 0) action)) ∷ Restarts 7 2 0 ∷ [];
      };
    }

reads_its_area : history_run (site a) (run_of (Get Local k)) ≡ record { name = codes "open"; body = reply.Load (Some (codes "p=1")) [] } ∷ record { name = codes "get"; body = reply.Text (Some v) } ∷ []
unfolding history_run
reads_its_area = λ i. take 2 (load_sends i ++ area_is_read i) ++ []

reads_its_cookie : history_run (site a) (run_of Cookie) ≡ record { name = codes "open"; body = reply.Load (Some (codes "p=1")) [] } ∷ record { name = codes "cookie"; body = reply.Cookie (codes "p=1") } ∷ []
unfolding history_run
reads_its_cookie = λ i. take 2 (load_sends i ++ cookie_is_read i) ++ []
