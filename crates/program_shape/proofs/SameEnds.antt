-- Endpoints with the same parts are the same.
use Rattle.std.proofs.Common.{◌≡◌, ℕ, List}
use Rattle.cm_base.specs.declared.host.Flow.{Flow}
use Rattle.cm_base.specs.declared.host.Kind.{Kind}
use Rattle.cm_base.specs.declared.host.Scalar.{Scalar}
use Rattle.cm_core.specs.declared.core_type.CoreType.{CoreType}
use Rattle.cm_core.specs.declared.program.End.{End}

end_of : Flow → Kind → List ℕ → List Scalar → CoreType → End
end_of f k n s t = record { flow = f; kind = k; name = n; ty = t; shape = s }

made : (f g : Flow) (k l : Kind) (n m : List ℕ) (s t : List Scalar) (x y : CoreType) → f ≡ g → k ≡ l → n ≡ m → s ≡ t → x ≡ y → end_of f k n s x ≡ end_of g l m t y
made f g k l n m s t x y a b c d e = cc

pub same_end : (a b : End) → (a.flow ≡ b.flow) × (a.kind ≡ b.kind) × (a.name ≡ b.name) × (a.shape ≡ b.shape) → a.ty ≡ b.ty → a ≡ b
unfolding end_of
same_end a b h ty = made a.flow b.flow a.kind b.kind a.name b.name a.shape b.shape a.ty b.ty h.0 h.1 h.2 h.3 ty
