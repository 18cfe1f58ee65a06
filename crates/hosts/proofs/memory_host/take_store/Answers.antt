use Rattle.std.proofs.Common.{ap, sym, subst, ◌∙◌, arith, rules}
use Rattle.disk_model.specs.History.{held}
use Rattle.disk_model.specs.MemDisk.{MemView}
use Rattle.hosts.specs.MemoryStores.{IsReopened, disk_at}
use Rattle.hosts.proofs.EntryLemmas.{none_left_out, removed_path, removed_value}
use Rattle.hosts.proofs.StoreLemmas.{disk_found, holds_image}
use Rattle.hosts.proofs.memory_host.take_store.Goals as goal

pub returns-in-Some-clause-name : goal.returns-in-Some-clause-name
returns-in-Some-clause-name c =
    let named = rw c.deref.ensures.value at c.in-Some.ensures.named in
    removed_path c.args.stores.now.items c.args.path.now c.in-Some.place c.remove-name.result (search rules) named c.remove-name.ensures.value

pub returns-in-Some-clause-disk : goal.returns-in-Some-clause-disk
returns-in-Some-clause-disk c =
    let found = rw c.deref.ensures.value at c.in-Some.ensures.found.1 in
    let is = removed_value c.args.stores.now.items c.args.path.now c.in-Some.place c.remove-name.result (search rules) found c.remove-name.ensures.value in
    let P : MemView → Type 0 = λ disk. IsReopened disk c.reopen.result in
    subst P (sym (disk_found c.args.stores.now.items c.args.path.now c.remove-name.result.1 is)) (record {
      recovered = c.reopen.ensures.recovered;
      anew = c.reopen.ensures.anew;
      plan = c.reopen.ensures.plan;
      counts = c.reopen.ensures.counts;
      room = (omega (arith, c.reopen.ensures.room.0), omega (arith, c.reopen.ensures.room.1));
    })

pub returns-in-Some-clause-image : goal.returns-in-Some-clause-image
returns-in-Some-clause-image c =
    let found = rw c.deref.ensures.value at c.in-Some.ensures.found.1 in
    let is = removed_value c.args.stores.now.items c.args.path.now c.in-Some.place c.remove-name.result (search rules) found c.remove-name.ensures.value in
    holds_image (disk_at c.args.stores.now.items c.args.path.now) c.remove-name.result.1 c.reopen.result
    (ap (λ disk. held disk.past) (sym (disk_found c.args.stores.now.items c.args.path.now c.remove-name.result.1 is)))
    c.reopen.ensures.image

pub returns-clause-rest : goal.returns-clause-rest
returns-clause-rest c =
    c.reserve.ensures.items ∙ sym (none_left_out c.args.stores.now.items c.args.path.now (search rules))
