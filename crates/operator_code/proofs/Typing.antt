-- The code of operators and conversions is typed.
use Rattle.std.proofs.Common.{◌≡◌, ℕ, ◌-◌, Bool, true, false, ℤ, pos, negsuc, List, [], ◌∷◌, ◌++◌, refl, Some, None}
use Rattle.std.specs.Prelude.{slice_get, if◌then◌else◌}
use Rattle.cm_base.specs.declared.host.Scalar.{Scalar}
use Rattle.cm_base.specs.declared.host.Scalar.TheVariants as kinds
use Rattle.cm_core.specs.declared.operator.BinaryOp.{BinaryOp}
use Rattle.cm_core.specs.declared.operator.BinaryOp.TheVariants as op
use Rattle.cm_core.specs.declared.operator.UnaryOp.{UnaryOp}
use Rattle.cm_core.specs.declared.operator.UnaryOp.TheVariants.{Negate, Not, Invert}
use Rattle.cm_core.specs.Typing.{TakesKind, is_shift}
use Rattle.wasm_tree.specs.declared.module.ValType.{ValType}
use Rattle.wasm_tree.specs.declared.module.ValType.TheVariants.{I32, I64}
use Rattle.wasm_tree.specs.declared.op.BinaryOp.{BinaryOp as Arithmetic}
use Rattle.wasm_tree.specs.declared.op.BinaryOp.TheVariants as binary
use Rattle.wasm_tree.specs.declared.op.CompareOp.{CompareOp}
use Rattle.wasm_tree.specs.declared.op.CompareOp.TheVariants as compare
use Rattle.wasm_tree.specs.declared.instr.Instr.{Instr}
use Rattle.wasm_tree.specs.declared.instr.Instr.TheVariants as instr
use Rattle.wasm_tree.specs.Typed.{Context, Applies}
use Rattle.straight_code.specs.Straight.{IsTypedIn}
use Rattle.straight_code.proofs.Typing.{takes, typed_append}
use Rattle.operator_code.specs.declared.scratch.Scratch.{Scratch}
use Rattle.operator_code.specs.Operands.{type_of, number}
use Rattle.operator_code.specs.Operators.{instr_of, amount_code, shift_code, unary_code}
use Rattle.operator_code.specs.Conversions as codes
use Rattle.operator_code.specs.Promises.{IsTypedAs, IsTypedWith, HasTypes}

-- an instruction in front of more
step : (c : Context) (i : Instr) (code : List Instr) (x y z : List ValType) → ((labels : List (List ValType)) (below : List ValType) → Applies c labels i (x ++ below) (y ++ below)) → IsTypedIn c code y z → IsTypedIn c (i ∷ code) x z
step c i code x y z h k labels below = (y ++ below, h labels below, k labels below)

last : (c : Context) (x : List ValType) → IsTypedIn c [] x x
last c x labels below = refl

both : (c : Context) (a b : List Instr) (x y z : List ValType) → IsTypedIn c a x y → IsTypedIn c b y z → IsTypedIn c (a ++ b) x z
both c a b x y z h k labels below = typed_append c labels a b (x ++ below) (y ++ below) (z ++ below) (h labels below) (k labels below)

number_applies : (c : Context) (ty : ValType) (z : ℤ) (labels : List (List ValType)) (below : List ValType) → Applies c labels (number ty z) below (ty ∷ below)
number_applies c I32 z labels below = takes [] (I32 ∷ []) below
number_applies c I64 z labels below = takes [] (I64 ∷ []) below

binary_applies : (c : Context) (ty : ValType) (o : Arithmetic) (labels : List (List ValType)) (below : List ValType) → Applies c labels (instr.Binary ty o) (ty ∷ ty ∷ below) (ty ∷ below)
binary_applies c ty o labels below = takes (ty ∷ ty ∷ []) (ty ∷ []) below

compare_applies : (c : Context) (ty : ValType) (o : CompareOp) (labels : List (List ValType)) (below : List ValType) → Applies c labels (instr.Compare ty o) (ty ∷ ty ∷ below) (I32 ∷ below)
compare_applies c ty o labels below = takes (ty ∷ ty ∷ []) (I32 ∷ []) below

-- ---- operators

shift_applies : (c : Context) (o : BinaryOp) → is_shift o ≡ true → (ty : ValType) (labels : List (List ValType)) (below : List ValType) → Applies c labels (instr_of o ty) (ty ∷ ty ∷ below) (ty ∷ below)
shift_applies c op.ShiftLeft s ty labels below = binary_applies c ty binary.ShiftLeft labels below
shift_applies c op.ShiftRight s ty labels below = binary_applies c ty binary.ShiftRightSigned labels below
shift_applies c op.ShiftRightZero s ty labels below = binary_applies c ty binary.ShiftRightUnsigned labels below
shift_applies c _ s ty labels below = cc

amount_typed : (c : Context) (ty amount : ValType) → IsTypedIn c (amount_code ty amount) (amount ∷ ty ∷ []) (ty ∷ ty ∷ [])
amount_typed c I32 I32 = last c (I32 ∷ I32 ∷ [])
amount_typed c I64 I64 = last c (I64 ∷ I64 ∷ [])
amount_typed c I32 I64 = λ labels below. (_, takes (I64 ∷ []) (I32 ∷ []) (I32 ∷ below), refl)
amount_typed c I64 I32 = λ labels below. (_, takes (I32 ∷ []) (I64 ∷ []) (I64 ∷ below), refl)

pub shift_typed : (o : BinaryOp) (kind amount : Scalar) → is_shift o ≡ true → IsTypedAs (shift_code o kind amount) (type_of amount ∷ type_of kind ∷ []) (type_of kind)
shift_typed o kind amount s c =
    let ty : ValType = type_of kind in
    both c (amount_code ty (type_of amount)) (instr_of o ty ∷ []) (type_of amount ∷ ty ∷ []) (ty ∷ ty ∷ []) (ty ∷ []) (amount_typed c ty (type_of amount))
    (step c (instr_of o ty) [] (ty ∷ ty ∷ []) (ty ∷ []) (ty ∷ []) (shift_applies c o s ty) (last c (ty ∷ [])))

-- a constant and then an instruction of two operands
with_constant : (c : Context) (ty out : ValType) (z : ℤ) (i : Instr) → ((labels : List (List ValType)) (below : List ValType) → Applies c labels i (ty ∷ ty ∷ below) (out ∷ below)) → IsTypedIn c (number ty z ∷ i ∷ []) (ty ∷ []) (out ∷ [])
with_constant c ty out z i h =
    step c (number ty z) (i ∷ []) (ty ∷ []) (ty ∷ ty ∷ []) (out ∷ []) (λ labels below. number_applies c ty z labels (ty ∷ below))
    (step c i [] (ty ∷ ty ∷ []) (out ∷ []) (out ∷ []) h (last c (out ∷ [])))

pub unary_typed : (o : UnaryOp) (kind : Scalar) → TakesKind o kind → IsTypedAs (unary_code o kind) (type_of kind ∷ []) (type_of kind)
unary_typed Negate kind k c = with_constant c (type_of kind) (type_of kind) (negsuc 0) (instr.Binary (type_of kind) binary.Mul) (binary_applies c (type_of kind) binary.Mul)
unary_typed Invert kind k c = with_constant c (type_of kind) (type_of kind) (negsuc 0) (instr.Binary (type_of kind) binary.Xor) (binary_applies c (type_of kind) binary.Xor)
unary_typed Not kinds.Bool k c = λ labels below. (_, takes (I32 ∷ []) (I32 ∷ []) below, refl)
unary_typed Not kinds.Int32 k c = cc
unary_typed Not kinds.Int64 k c = cc
unary_typed Not (kinds.Wrap n) k c = cc
unary_typed Not (kinds.Clamp n) k c = cc

-- ---- conversions

narrow_typed : (c : Context) (ty : ValType) → IsTypedIn c (codes.narrow_code ty) (ty ∷ []) (I32 ∷ [])
narrow_typed c I32 = last c (I32 ∷ [])
narrow_typed c I64 = λ labels below. (_, takes (I64 ∷ []) (I32 ∷ []) below, refl)

widen_typed : (c : Context) (ty : ValType) → IsTypedIn c (codes.widen_code ty) (ty ∷ []) (I64 ∷ [])
widen_typed c I64 = last c (I64 ∷ [])
widen_typed c I32 = λ labels below. (_, takes (I32 ∷ []) (I64 ∷ []) below, refl)

truth_typed : (c : Context) (from : Scalar) → IsTypedIn c (codes.truth_code from) (type_of from ∷ []) (I32 ∷ [])
truth_typed c kinds.Bool = last c (I32 ∷ [])
truth_typed c kinds.Int32 = with_constant c I32 I32 (pos 0) (instr.Compare I32 compare.NotEqual) (compare_applies c I32 compare.NotEqual)
truth_typed c kinds.Int64 = with_constant c I64 I32 (pos 0) (instr.Compare I64 compare.NotEqual) (compare_applies c I64 compare.NotEqual)
truth_typed c (kinds.Wrap n) = with_constant c I32 I32 (pos 0) (instr.Compare I32 compare.NotEqual) (compare_applies c I32 compare.NotEqual)
truth_typed c (kinds.Clamp n) = with_constant c I32 I32 (pos 0) (instr.Compare I32 compare.NotEqual) (compare_applies c I32 compare.NotEqual)

local_typed : (s : Scratch) (c : Context) → HasTypes s c → (ty : ValType) → slice_get c.locals (codes.local_of s ty) ≡ Some ty
local_typed s c h I32 = h.narrow
local_typed s c h I64 = h.wide

-- a number, a constant, and which of them is picked
picking_typed : (c : Context) (ty : ValType) (v : ℕ) (k : ℤ) (o : CompareOp) → slice_get c.locals v ≡ Some ty →
    IsTypedIn c (instr.LocalTee v ∷ number ty k ∷ instr.LocalGet v ∷ number ty k ∷ instr.Compare ty o ∷ instr.Select ∷ []) (ty ∷ []) (ty ∷ [])
picking_typed c ty v k o h labels below = (
  _,
  (ty, h, takes (ty ∷ []) (ty ∷ []) below),
  (
    _,
    number_applies c ty k labels (ty ∷ below),
    (
      _,
      (ty, h, takes [] (ty ∷ []) (ty ∷ ty ∷ below)),
      (_, number_applies c ty k labels (ty ∷ ty ∷ ty ∷ below), (_, compare_applies c ty o labels (ty ∷ ty ∷ below), (_, (ty, takes (I32 ∷ ty ∷ ty ∷ []) (ty ∷ []) below), refl))),
    ),
  ),
)

floor_typed : (c : Context) (ty : ValType) (n v : ℕ) → slice_get c.locals v ≡ Some ty → IsTypedIn c (codes.floor_code ty n v) (ty ∷ []) (ty ∷ [])
floor_typed c ty n v h labels below = (
  _,
  number_applies c ty (pos n) labels (ty ∷ below),
  (
    _,
    binary_applies c ty binary.RemSigned labels below,
    (
      _,
      (ty, h, takes (ty ∷ []) (ty ∷ []) below),
      (
        _,
        number_applies c ty (pos n) labels (ty ∷ below),
        (
          _,
          binary_applies c ty binary.Add labels below,
          (
            _,
            (ty, h, takes [] (ty ∷ []) (ty ∷ below)),
            (
              _,
              (ty, h, takes [] (ty ∷ []) (ty ∷ ty ∷ below)),
              (
                _,
                number_applies c ty (pos 0) labels (ty ∷ ty ∷ ty ∷ below),
                (_, compare_applies c ty compare.LessSigned labels (ty ∷ ty ∷ below), (_, (ty, takes (I32 ∷ ty ∷ ty ∷ []) (ty ∷ []) below), refl)),
              ),
            ),
          ),
        ),
      ),
    ),
  ),
)

mask_typed : (c : Context) (ty : ValType) (n : ℕ) → IsTypedIn c (codes.mask_code ty n) (ty ∷ []) (ty ∷ [])
mask_typed c ty n = with_constant c ty ty (pos (n - 1)) (instr.Binary ty binary.And) (binary_applies c ty binary.And)

modulus_typed : (s : Scratch) (c : Context) → HasTypes s c → (from : Scalar) (n : ℕ) → IsTypedIn c (codes.modulus_code s (codes.bound_of from) (type_of from) n) (type_of from ∷ []) (I32 ∷ [])
modulus_typed s c h kinds.Int32 n = both c (codes.floor_code I32 n s.narrow) (codes.narrow_code I32) (I32 ∷ []) (I32 ∷ []) (I32 ∷ []) (floor_typed c I32 n s.narrow h.narrow) (narrow_typed c I32)
modulus_typed s c h kinds.Int64 n = both c (codes.floor_code I64 n s.wide) (codes.narrow_code I64) (I64 ∷ []) (I64 ∷ []) (I32 ∷ []) (floor_typed c I64 n s.wide h.wide) (narrow_typed c I64)
modulus_typed s c h kinds.Bool n = with_constant c I32 I32 (pos n) (instr.Binary I32 binary.RemUnsigned) (binary_applies c I32 binary.RemUnsigned)
modulus_typed s c h (kinds.Wrap m) n = with_constant c I32 I32 (pos n) (instr.Binary I32 binary.RemUnsigned) (binary_applies c I32 binary.RemUnsigned)
modulus_typed s c h (kinds.Clamp m) n = with_constant c I32 I32 (pos n) (instr.Binary I32 binary.RemUnsigned) (binary_applies c I32 binary.RemUnsigned)

-- a kind whose values are below a count has 32 bits
bounded_narrow : (from : Scalar) (n : ℕ) → codes.are_below (codes.bound_of from) n ≡ true → type_of from ≡ I32
bounded_narrow kinds.Int32 n e = refl
bounded_narrow kinds.Int64 n e = cc
bounded_narrow kinds.Bool n e = refl
bounded_narrow (kinds.Wrap m) n e = refl
bounded_narrow (kinds.Clamp m) n e = refl

stays : (c : Context) (ty : ValType) → ty ≡ I32 → IsTypedIn c [] (ty ∷ []) (I32 ∷ [])
stays c I32 e = last c (I32 ∷ [])
stays c I64 e = cc

wrap_typed : (s : Scratch) (c : Context) → HasTypes s c → (from : Scalar) (n : ℕ) (below power : Bool) → codes.are_below (codes.bound_of from) n ≡ below →
    IsTypedIn c (if below then [] else (if power then codes.mask_code (type_of from) n ++ codes.narrow_code (type_of from) else codes.modulus_code s (codes.bound_of from) (type_of from) n)) (type_of from ∷ []) (I32 ∷ [])
wrap_typed s c h from n true power e = stays c (type_of from) (bounded_narrow from n e)
wrap_typed s c h from n false true e = both c (codes.mask_code (type_of from) n) (codes.narrow_code (type_of from)) (type_of from ∷ []) (type_of from ∷ []) (I32 ∷ []) (mask_typed c (type_of from) n) (narrow_typed c (type_of from))
wrap_typed s c h from n false false e = modulus_typed s c h from n

held_typed : (s : Scratch) (c : Context) → HasTypes s c → (ty : ValType) (top : ℕ) → IsTypedIn c (codes.hold_code s None ty top) (ty ∷ []) (I32 ∷ [])
held_typed s c h ty top =
    let v : ℕ = codes.local_of s ty in
    let e = local_typed s c h ty in
    both c (codes.least_code ty v) (codes.most_code ty top v ++ codes.narrow_code ty) (ty ∷ []) (ty ∷ []) (I32 ∷ []) (picking_typed c ty v (pos 0) compare.GreaterSigned e)
    (both c (codes.most_code ty top v) (codes.narrow_code ty) (ty ∷ []) (ty ∷ []) (I32 ∷ []) (picking_typed c ty v (pos top) compare.LessSigned e) (narrow_typed c ty))

hold_typed : (s : Scratch) (c : Context) → HasTypes s c → (from : Scalar) (top : ℕ) → IsTypedIn c (codes.hold_code s (codes.bound_of from) (type_of from) top) (type_of from ∷ []) (I32 ∷ [])
hold_typed s c h kinds.Int32 top = held_typed s c h I32 top
hold_typed s c h kinds.Int64 top = held_typed s c h I64 top
hold_typed s c h kinds.Bool top = picking_typed c I32 s.narrow (pos top) compare.LessSigned h.narrow
hold_typed s c h (kinds.Wrap m) top = picking_typed c I32 s.narrow (pos top) compare.LessSigned h.narrow
hold_typed s c h (kinds.Clamp m) top = picking_typed c I32 s.narrow (pos top) compare.LessSigned h.narrow

clamp_typed : (s : Scratch) (c : Context) → HasTypes s c → (from : Scalar) (n : ℕ) (below : Bool) → codes.are_below (codes.bound_of from) n ≡ below →
    IsTypedIn c (if below then [] else codes.hold_code s (codes.bound_of from) (type_of from) (n - 1)) (type_of from ∷ []) (I32 ∷ [])
clamp_typed s c h from n true e = stays c (type_of from) (bounded_narrow from n e)
clamp_typed s c h from n false e = hold_typed s c h from (n - 1)

pub conversion_typed : (s : Scratch) (from to : Scalar) → IsTypedWith s (codes.conversion_code s from to) (type_of from) (type_of to)
conversion_typed s from kinds.Int32 c h = narrow_typed c (type_of from)
conversion_typed s from kinds.Int64 c h = widen_typed c (type_of from)
conversion_typed s from kinds.Bool c h = truth_typed c from
conversion_typed s from (kinds.Wrap n) c h = wrap_typed s c h from n (codes.are_below (codes.bound_of from) n) (codes.is_power n) refl
conversion_typed s from (kinds.Clamp n) c h = clamp_typed s c h from n (codes.are_below (codes.bound_of from) n) refl
