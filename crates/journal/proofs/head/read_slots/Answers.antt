use Rattle.std.proofs.Common.{◌≡◌, ◌<◌, ◌^◌, Some, None, Bool, true, false, refl, inl, inr, arith, rules}
use Rattle.std.specs.Prelude.{replicate}
use Rattle.disk_model.specs.Disk.{Holds}
use Rattle.journal.proofs.Heads.{first_live, second_live, any_live, none_live, both_open}
use Rattle.journal.proofs.head.read_slots.Goals as goal
use Rattle.journal.proofs.head.read_slots.Goals.{else-not-first-via-then-not-first+else-not-second, else-not-first-via-else-not-first}

no_not : (b : Bool) → b ≡ false → b ≡ true → ⊥
no_not b is is_not = cc

pub returns-in_default : goal.returns-in_default
returns-in_default c =
    let file = c.args.bytes.now in
    let s = c.read_slot-first.result in
    let t = c.read_slot-second.result in
    let is : c.live_slot.result ≡ None = search rules in
    let none = c.live_slot.ensures.none is in
    let some : (s.is_open ≡ false) × (t.is_open ≡ false) → ⊥ = λ e. elim c.else-not-first.branch [
      | else-not-first-via-then-not-first+else-not-second w ↦ no_not t.is_open e.1 w.if-not-second.false
      | else-not-first-via-else-not-first w ↦ no_not s.is_open e.0 w.if-not-first.false
    ] in
    let opens = both_open file s.is_open t.is_open s.number s.begin t.number t.begin c.requires c.read_slot-first.ensures.gate c.read_slot-first.ensures.says c.read_slot-second.ensures.gate c.read_slot-second.ensures.says some none in
    let small_s : s.number < 2 ^ 64 = omega arith in
    let small_t : t.number < 2 ^ 64 = omega arith in
    let no_live = none_live file s.is_open t.is_open s.number s.begin t.number t.begin c.requires c.read_slot-first.ensures.gate c.read_slot-first.ensures.says c.read_slot-second.ensures.gate c.read_slot-second.ensures.says small_s small_t none in
    inr (inl (opens.0, opens.1, no_live, refl))

pub begin_of-requires-clause-live : goal.begin_of-requires-clause-live
begin_of-requires-clause-live c =
    let file = c.args.bytes.now in
    let s = c.read_slot-first.result in
    let t = c.read_slot-second.result in
    let is : c.live_slot.result ≡ Some true = search rules in
    second_live file s.is_open t.is_open s.number s.begin t.number t.begin c.requires c.read_slot-first.ensures.gate c.read_slot-first.ensures.says c.read_slot-second.ensures.gate c.read_slot-second.ensures.says (c.live_slot.ensures.some true is)

pub begin_of-requires-else-live-clause-live : goal.begin_of-requires-else-live-clause-live
begin_of-requires-else-live-clause-live c =
    let file = c.args.bytes.now in
    let s = c.read_slot-first.result in
    let t = c.read_slot-second.result in
    let is : c.live_slot.result ≡ Some false = search rules in
    first_live file s.is_open t.is_open s.number s.begin t.number t.begin c.requires c.read_slot-first.ensures.gate c.read_slot-first.ensures.says c.read_slot-second.ensures.gate c.read_slot-second.ensures.says (c.live_slot.ensures.some false is)

pub returns-then-not-holds : goal.returns-then-not-holds
returns-then-not-holds c =
    let file = c.args.bytes.now in
    let s = c.read_slot-first.result in
    let t = c.read_slot-second.result in
    let zero : Holds file 78 (replicate 50 0) → ⊥ = search rules in
    let is : c.live_slot.result ≡ Some c.in-Some.live = search rules in
    let found = any_live file s.is_open t.is_open s.number s.begin t.number t.begin c.requires c.read_slot-first.ensures.gate c.read_slot-first.ensures.says c.read_slot-second.ensures.gate c.read_slot-second.ensures.says c.in-Some.live (c.live_slot.ensures.some c.in-Some.live is) in
    inr (inr (inl (c.in-Some.live, found.0, found.1, found.2, zero, refl)))
