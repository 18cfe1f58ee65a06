use Rattle.script_lines.specs.JsonLine.{data_of_line}
use Rattle.script_lines.proofs.NameLemmas.{of_row}
use Rattle.script_lines.proofs.actions.read_row.Goals as goal

pub returns-in-Tick : goal.returns-in-Tick
returns-in-Tick c = of_row c.args.number (data_of_line c.args.line.now) c.tick.result c.in-Tick.is c.tick.ensures

pub returns-in-Restart : goal.returns-in-Restart
returns-in-Restart c = of_row c.args.number (data_of_line c.args.line.now) c.restart.result c.in-Restart.is c.restart.ensures

pub returns-in-Open : goal.returns-in-Open
returns-in-Open c = of_row c.args.number (data_of_line c.args.line.now) c.open.result c.in-Open.is c.open.ensures

pub returns-in-Close : goal.returns-in-Close
returns-in-Close c = of_row c.args.number (data_of_line c.args.line.now) c.close.result c.in-Close.is c.close.ensures

pub returns-in-Go : goal.returns-in-Go
returns-in-Go c = of_row c.args.number (data_of_line c.args.line.now) c.go.result c.in-Go.is c.go.ensures

pub returns-in-Frame : goal.returns-in-Frame
returns-in-Frame c = of_row c.args.number (data_of_line c.args.line.now) c.frame.result c.in-Frame.is c.frame.ensures

pub returns-in-Nav : goal.returns-in-Nav
returns-in-Nav c = of_row c.args.number (data_of_line c.args.line.now) c.nav.result c.in-Nav.is c.nav.ensures

pub returns-in-Drop : goal.returns-in-Drop
returns-in-Drop c = of_row c.args.number (data_of_line c.args.line.now) c.drop.result c.in-Drop.is c.drop.ensures

pub returns-in-Click : goal.returns-in-Click
returns-in-Click c = of_row c.args.number (data_of_line c.args.line.now) c.click.result c.in-Click.is c.click.ensures

pub returns-in-Fetch : goal.returns-in-Fetch
returns-in-Fetch c = of_row c.args.number (data_of_line c.args.line.now) c.fetch.result c.in-Fetch.is c.fetch.ensures

pub returns-in-Set : goal.returns-in-Set
returns-in-Set c = of_row c.args.number (data_of_line c.args.line.now) c.set.result c.in-Set.is c.set.ensures

pub returns-in-Get : goal.returns-in-Get
returns-in-Get c = of_row c.args.number (data_of_line c.args.line.now) c.get.result c.in-Get.is c.get.ensures

pub returns-in-Del : goal.returns-in-Del
returns-in-Del c = of_row c.args.number (data_of_line c.args.line.now) c.del.result c.in-Del.is c.del.ensures

pub returns-in-Clear : goal.returns-in-Clear
returns-in-Clear c = of_row c.args.number (data_of_line c.args.line.now) c.clear.result c.in-Clear.is c.clear.ensures

pub returns-in-Len : goal.returns-in-Len
returns-in-Len c = of_row c.args.number (data_of_line c.args.line.now) c.len.result c.in-Len.is c.len.ensures

pub returns-in-Key : goal.returns-in-Key
returns-in-Key c = of_row c.args.number (data_of_line c.args.line.now) c.key.result c.in-Key.is c.key.ensures

pub returns-in-Events : goal.returns-in-Events
returns-in-Events c = of_row c.args.number (data_of_line c.args.line.now) c.events.result c.in-Events.is c.events.ensures

pub returns-in-Cookie : goal.returns-in-Cookie
returns-in-Cookie c = of_row c.args.number (data_of_line c.args.line.now) c.cookie.result c.in-Cookie.is c.cookie.ensures

pub returns-in-SetCookie : goal.returns-in-SetCookie
returns-in-SetCookie c = of_row c.args.number (data_of_line c.args.line.now) c.set_cookie.result c.in-SetCookie.is c.set_cookie.ensures

pub returns-in-Has : goal.returns-in-Has
returns-in-Has c = of_row c.args.number (data_of_line c.args.line.now) c.has.result c.in-Has.is c.has.ensures

pub returns-in-Request : goal.returns-in-Request
returns-in-Request c = of_row c.args.number (data_of_line c.args.line.now) c.request.result c.in-Request.is c.request.ensures

pub returns-in-Persisted : goal.returns-in-Persisted
returns-in-Persisted c = of_row c.args.number (data_of_line c.args.line.now) c.persisted.result c.in-Persisted.is c.persisted.ensures

pub returns-in-Estimate : goal.returns-in-Estimate
returns-in-Estimate c = of_row c.args.number (data_of_line c.args.line.now) c.estimate.result c.in-Estimate.is c.estimate.ensures

pub returns-in-Persist : goal.returns-in-Persist
returns-in-Persist c = of_row c.args.number (data_of_line c.args.line.now) c.persist.result c.in-Persist.is c.persist.ensures

pub returns-in-Evict : goal.returns-in-Evict
returns-in-Evict c = of_row c.args.number (data_of_line c.args.line.now) c.evict.result c.in-Evict.is c.evict.ensures
