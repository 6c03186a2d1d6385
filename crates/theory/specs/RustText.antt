-- The house text of the Rust's terms, whose names are bytes. Assumes nothing.
use Rattle.std.specs.Prelude.{ℕ, List, ◌++◌}
use Rattle.theory.specs.Text.{bytes, form_text}
use Rattle.theory.specs.RustTerm.{ProofTerm, Ident, Pair, ProjectFst, ProjectSnd, Function, Application, OrLeft, OrRight, Case, Abort}
use Rattle.theory.specs.RustTerm.{TypeAscription, UnitTerm}

-- "(), names, (pair s t), (fst t), (snd t), (fn a t), (app s t), (inl t), (inr t), (case h a s b t), (abort t), (as t A)"
unfoldable pub house_text : ProofTerm → List ℕ
house_text (Ident x) = x
house_text (Pair s t) = bytes "(pair " ++ (house_text s ++ (bytes " " ++ (house_text t ++ bytes ")")))
house_text (ProjectFst t) = bytes "(fst " ++ (house_text t ++ bytes ")")
house_text (ProjectSnd t) = bytes "(snd " ++ (house_text t ++ bytes ")")
house_text (Function x t) = bytes "(fn " ++ (x ++ (bytes " " ++ (house_text t ++ bytes ")")))
house_text (Application s t) = bytes "(app " ++ (house_text s ++ (bytes " " ++ (house_text t ++ bytes ")")))
house_text (OrLeft t) = bytes "(inl " ++ (house_text t ++ bytes ")")
house_text (OrRight t) = bytes "(inr " ++ (house_text t ++ bytes ")")
house_text (Case h x s y t) =
    bytes "(case " ++ (house_text h ++ (bytes " " ++
    (x ++ (bytes " " ++ (house_text s ++ (bytes " " ++
    (y ++ (bytes " " ++ (house_text t ++ bytes ")")))))))))
house_text (Abort t) = bytes "(abort " ++ (house_text t ++ bytes ")")
house_text (TypeAscription t A) = bytes "(as " ++ (house_text t ++ (bytes " " ++ (form_text A ++ bytes ")")))
house_text UnitTerm = bytes "()"
