-- `answer`: what was read is enough to know the lines of the whole file. Assumes nothing.
use Rattle.std.proofs.Common.{arith, ◌≡◌, length}
use Rattle.std.specs.Prelude.{Ok}
use Rattle.quaysaffron.proofs.Mapped.{ok_before, on_ok_mapped}
use Rattle.quaysaffron.proofs.Whole.{whole_written}
use Rattle.quaysaffron.proofs.answer.Goals as goal

pub returns : goal.returns
returns g c =
    let n = c.in_ok-n.n in
    let read = c.read_rest.ensures in
    let was : c.read_rest.result ≡ Ok n =
    ok_before _ c.read_rest.result c.map_err.result c.map_err.ensures.cases c.map_err.ensures.variant c.in_ok-n.was in
    let long : length c.read_rest.new.buf ≡ 32769 = omega arith in
    let inside = rw was at read.grown.behind in
    let taken = rw was at read.bytes in
    let end = rw was at read.end in
    on_ok_mapped c.print.result c.map_err-2.result c.map_err-2.ensures.variant
    (whole_written _ _ n c.read_rest.new.buf _ _ long inside.1 taken end) c.print.ensures
