-- What expressions count without their parts.
use Rattle.std.specs.Prelude.{◌≡◌, refl, ◌||◌, Bool, true, false}
use Rattle.cm_core.specs.Code.{Expr, Number, Truth, Variable, Input, Constant, Field, Index, Call, Construct, Convert, Unary, Binary, Logic, Choose}
use Rattle.cm_core.specs.Types.{type_of, is_place}
use Rattle.cm_core.specs.Sizes.{Measured, Use, AsValue, AsPlace, own_size, scalars_in}
use Rattle.memory_layout.specs.Uses.{own_of, names_constant}

pub own_is : (m : Measured) (u : Use) (e : Expr) → own_size m u e ≡ own_of (scalars_in m (type_of m.structs m.unit e)) u (is_place e) (names_constant e)
own_is m AsValue e = refl
own_is m (AsPlace false) (Number value wide) = refl
own_is m (AsPlace false) (Truth value) = refl
own_is m (AsPlace false) (Variable x) = refl
own_is m (AsPlace false) (Input e) = refl
own_is m (AsPlace false) (Constant c) = refl
own_is m (AsPlace false) (Field a k) = refl
own_is m (AsPlace false) (Index a i) = refl
own_is m (AsPlace false) (Call f es) = refl
own_is m (AsPlace false) (Construct ty es) = refl
own_is m (AsPlace false) (Convert kind a) = refl
own_is m (AsPlace false) (Unary op kind a) = refl
own_is m (AsPlace false) (Binary op kind a b) = refl
own_is m (AsPlace false) (Logic op a b) = refl
own_is m (AsPlace false) (Choose c a b) = refl
own_is m (AsPlace true) (Number value wide) = refl
own_is m (AsPlace true) (Truth value) = refl
own_is m (AsPlace true) (Variable x) = refl
own_is m (AsPlace true) (Input e) = refl
own_is m (AsPlace true) (Constant c) = refl
own_is m (AsPlace true) (Field a k) = refl
own_is m (AsPlace true) (Index a i) = refl
own_is m (AsPlace true) (Call f es) = refl
own_is m (AsPlace true) (Construct ty es) = refl
own_is m (AsPlace true) (Convert kind a) = refl
own_is m (AsPlace true) (Unary op kind a) = refl
own_is m (AsPlace true) (Binary op kind a b) = refl
own_is m (AsPlace true) (Logic op a b) = refl
own_is m (AsPlace true) (Choose c a b) = refl

pub or_joined : (a b c : Bool) → ((a || b) || c) ≡ (a || (b || c))
or_joined true b c = refl
or_joined false b c = refl
