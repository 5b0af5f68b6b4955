use Rattle.h264_pen.specs.PlacePuts.{place_none, place_more}
use Rattle.pen.specs.Sheet.{sheet}
use Rattle.h264_pen.proofs.places.put_place.Goals as goal

pub returns-then-significant : goal.returns-then-significant
returns-then-significant c = λ w n ks q p. let a = c.args in place_more n a.k ks w (sheet a.room.now a.pen) (sheet c.put_bin-y.new.room c.put_bin-y.result) a.significant c.put_bin-y.ensures q c.if-significant.true (sheet c.put_bin.new.room c.put_bin.result) c.put_bin.ensures p

pub returns : goal.returns
returns c = λ w n ks q p. let a = c.args in place_none n a.k ks w (sheet a.room.now a.pen) (sheet c.put_bin-y.new.room c.put_bin-y.result) a.significant c.put_bin-y.ensures q c.if-significant.false
