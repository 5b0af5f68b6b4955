use Rattle.packer.specs.IntoCode.{at_once}
use Rattle.packer.proofs.list.pack_list.Goals as goal

pub returns-then-surely_fits : goal.returns-then-surely_fits
returns-then-surely_fits c =
    let a = c.args in
    at_once a.contexts.now a.list.now a.room.now c.surely_fits.result c.surely_fits.ensures c.if-surely_fits.true c.put_list-written.result c.put_list-written.new.room c.put_list-written.new.contexts c.put_list-written.ensures
