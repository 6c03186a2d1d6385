-- `print` hands on the front of its buffer. Assumes nothing.
use Rattle.std.proofs.Common.{sym, subst, List, ℕ}
use Rattle.std.specs.Prelude.{OnOk}
use Rattle.std.specs.Io.KnownBytes.{Appends}
use Rattle.std.proofs.lemmas.List.{length-take-le}
use Rattle.theory.specs.File.{printed}
use Rattle.quaysaffron.proofs.Printing.{padded_inside, padded_front}
use Rattle.quaysaffron.proofs.print.Goals as goal

pub slice_bounds-buffer-end : goal.slice_bounds-buffer-end
slice_bounds-buffer-end g c =
    padded_inside 32835 (printed c.args.file.now) c.output-n.ensures.out c.output-n.ensures.length

pub slice_bounds-lines-end : goal.slice_bounds-lines-end
slice_bounds-lines-end g c =
    sym (length-take-le _ _ (padded_inside 32835 (printed c.args.file.now) c.output-n.ensures.out c.output-n.ensures.length))

pub returns : goal.returns
returns g c =
    let written = padded_front 32835 (printed c.args.file.now) c.output-n.ensures.out c.output-n.ensures.length in
    subst (λ (l : List ℕ). OnOk c.write_all.result
    (Appends (g.W.Write.contents c.args.out.now) (g.W.Write.contents c.write_all.new.self) l)) written c.write_all.ensures.bytes
