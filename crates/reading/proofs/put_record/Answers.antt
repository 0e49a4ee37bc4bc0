-- `reading::put_record` meets its contract: three numbers are one record.
use Rattle.reading.proofs.Putting.{puts_one}
use Rattle.reading.proofs.put_record.Goals as goal

pub returns : goal.returns
returns c =
    let a = c.args in
    puts_one a.flat.now c.copy_from_slice.new.self a.k a.element a.portion a.unit c.requires.k_in_bounds c.copy_from_slice.ensures.after
