-- A result whose error is mapped is `Ok` exactly where it was, with the same value. Assumes nothing.
use Rattle.std.proofs.Common.{◌≡◌, true, false, sym, ap, ◌∙◌}
use Rattle.std.specs.Prelude.{Ok, Err, OnOk, MatchResult, is_ok}
use Rattle.std.specs.declared.result.Result.{Result}

pub ok_before : {T E D : Type 0} (Q : E → Type 0) (r : Result T E) (s : Result T D) {x : T} →
    MatchResult r (λ y. s ≡ Ok y) Q → is_ok s ≡ is_ok r → s ≡ Ok x → r ≡ Ok x
ok_before Q (Ok y) s is same e = cc
ok_before Q (Err y) s is same e =
    let wrong : true ≡ false = sym (ap is_ok e) ∙ same in
    cc

pub on_ok_mapped : {T E D P Q : Type 0} (r : Result T E) (s : Result T D) → is_ok s ≡ is_ok r → (P → Q) → OnOk r P → OnOk s Q
on_ok_mapped (Ok x) (Ok y) same f h = f h
on_ok_mapped (Err x) (Ok y) same f h = cc
on_ok_mapped r (Err y) same f h = tt
