-- Each action that uses cookies, by its label.
use Rattle.std.proofs.Common.{map, subst, sym}
use Rattle.std.specs.Prelude.{IfOk, option_map, string_bytes}
use Rattle.std.proofs.lemmas.Result.{IfOk-weaker}
use Rattle.origin_site.specs.Plain.{plain_address}
use Rattle.script_actions.specs.Plain.{action_of, head_field_of}
use Rattle.local_scripts.specs.Cells.{ActNames, FetchNames, FrameNames, NavNames}
use Rattle.local_scripts.proofs.CellLemmas.{fetch_acts, frame_acts, nav_acts}
use Rattle.local_scripts.proofs.cells.consulted.Goals as goal

pub returns-in-Frame : goal.returns-in-Frame
returns-in-Frame c =
    let rules = c.args.list.now.rules in
    let frames = c.args.tab.now in
    let s = c.in-Frame in
    record {
      cells = subst (λ action. IfOk c.of_frame.result (ActNames rules frames (action_of action))) (sym s.is)
          (IfOk-weaker c.of_frame.result _ _
          (λ domain. frame_acts rules frames s.at domain s.parent (plain_address s.url.value)
          (option_map (λ t. string_bytes t.value) s.sandbox) s.deny (map head_field_of s.head.items))
          (subst (λ url. IfOk c.of_frame.result (FrameNames rules frames s.at.frame s.parent
          (plain_address url))) c.deref.ensures c.of_frame.ensures.cells));
    }

pub returns-in-Nav : goal.returns-in-Nav
returns-in-Nav c =
    let rules = c.args.list.now.rules in
    let frames = c.args.tab.now in
    let s = c.in-Nav in
    record {
      cells = subst (λ action. IfOk c.of_navigation.result (ActNames rules frames (action_of action))) (sym s.is)
          (IfOk-weaker c.of_navigation.result _ _
          (λ domain. nav_acts rules frames s.at domain (plain_address s.url.value) s.by_self s.method
          (map head_field_of s.head.items))
          (subst (λ url. IfOk c.of_navigation.result
          (NavNames rules frames s.at.frame (plain_address url) s.by_self))
          c.deref-in-Nav.ensures c.of_navigation.ensures.cells));
    }

pub returns-in-Fetch : goal.returns-in-Fetch
returns-in-Fetch c =
    let rules = c.args.list.now.rules in
    let frames = c.args.tab.now in
    let s = c.in-Fetch in
    record {
      cells = subst (λ action. IfOk c.of_request.result (ActNames rules frames (action_of action))) (sym s.is)
          (IfOk-weaker c.of_request.result _ _
          (λ domain. fetch_acts rules frames s.at domain (plain_address s.url.value) s.method (map head_field_of s.head.items))
          (subst (λ url. IfOk c.of_request.result (FetchNames rules frames s.at.frame (plain_address url)))
          c.deref-in-Fetch.ensures c.of_request.ensures.cells));
    }
