-- The first instance of a valid module.
use Rattle.std.proofs.Common.{◌≡◌, ◌<◌, ◌≤◌, ◌+◌, ℕ, suc, List, [], ◌∷◌, length, get_or, take, ◌++◌, Some, refl, sym, ap, ◌∙◌, subst}
use Rattle.std.specs.Prelude.{map, true}
use Rattle.std.specs.List.{AllByRecursion}
use Rattle.std.proofs.lemmas.List.{take_more, take_all, map-append, length-map}
use Rattle.std.proofs.lemmas.Option.{slice_get-get_or}
use Rattle.wasm_runner.proofs.Preparing.{all_here}
use Rattle.wasm_runner.proofs.Typing.{joined}
use Rattle.wasm_tree.specs.declared.module.ValType.{ValType}
use Rattle.wasm_tree.specs.declared.module.ValType.TheVariants.{I32, I64}
use Rattle.wasm_tree.specs.declared.module.GlobalVar.{GlobalVar}
use Rattle.wasm_tree.specs.declared.module.Module.{Module}
use Rattle.wasm_tree.specs.declared.instr.Instr.{Instr}
use Rattle.wasm_tree.specs.Instance.{constant_of}
use Rattle.wasm_tree.specs.Valid.{IsConstantOf, memory_size}
use Rattle.wasm_sound.specs.Kinds.{IsOf, AreOf}
use Rattle.wasm_sound.specs.Reached.{AreBounds}
use Rattle.wasm_valid.specs.Checked.{Checked, IsChecked}
use Rattle.wasm_runner.specs.declared.function.Function.{Function}
use Rattle.wasm_runner.specs.Prepared.{ArePrepared}
use Rattle.wasm_runner.specs.Running.{running, CanRun}

pub constant_fits : (type : ValType) (value : Instr) (x : ℕ) → IsConstantOf type value → (IsConstantOf I32 value → IsOf I32 x) → (IsConstantOf I64 value → IsOf I64 x) → IsOf type x
constant_fits I32 value x h a b = a h
constant_fits I64 value x h a b = b h

pub none_typed : (vars : List GlobalVar) → AreOf (map (λ global. global.ty) (take 0 vars)) []
none_typed vars = tt

pub typed_more : (vars : List GlobalVar) (i : ℕ) (var : GlobalVar) (values : List ℕ) (x : ℕ) → AllByRecursion (λ global. IsConstantOf global.ty global.value) vars → AreOf (map (λ global. global.ty) (take i vars)) values →
    i < length vars → var ≡ get_or vars i var → (IsConstantOf I32 var.value → IsOf I32 x) → (IsConstantOf I64 var.value → IsOf I64 x) → AreOf (map (λ global. global.ty) (take (i + 1) vars)) (values ++ x ∷ [])
typed_more vars i var values x all h l e a b =
    let is = all_here (λ (global : GlobalVar). IsConstantOf global.ty global.value) vars i var all (slice_get-get_or vars i var l ∙ ap Some (sym e)) in
    let more : take (i + 1) vars ≡ take i vars ++ var ∷ [] = take_more vars i var l ∙ ap (λ (v : GlobalVar). take i vars ++ v ∷ []) (sym e) in
    subst (λ types. AreOf types (values ++ x ∷ [])) (sym (ap (map (λ (global : GlobalVar). global.ty)) more ∙ map-append (λ (global : GlobalVar). global.ty) (take i vars) (var ∷ [])))
    (joined (map (λ (global : GlobalVar). global.ty) (take i vars)) (var.ty ∷ []) values (x ∷ []) h (constant_fits var.ty var.value x is a b, tt))

pub first_more : (vars : List GlobalVar) (i : ℕ) (var : GlobalVar) (values : List ℕ) (x : ℕ) → values ≡ map (λ global. constant_of global.value) (take i vars) → i < length vars → var ≡ get_or vars i var → x ≡ constant_of var.value →
    values ++ x ∷ [] ≡ map (λ global. constant_of global.value) (take (i + 1) vars)
first_more vars i var values x h l e g =
    let more : take (i + 1) vars ≡ take i vars ++ var ∷ [] = take_more vars i var l ∙ ap (λ (v : GlobalVar). take i vars ++ v ∷ []) (sym e) in
    ap (λ l. l ++ x ∷ []) h ∙ ap (λ y. map (λ (global : GlobalVar). constant_of global.value) (take i vars) ++ y ∷ []) g
    ∙ sym (map-append (λ (global : GlobalVar). constant_of global.value) (take i vars) (var ∷ [])) ∙ sym (ap (map (λ (global : GlobalVar). constant_of global.value)) more)

pub all_typed : (vars : List GlobalVar) (i : ℕ) (values : List ℕ) → AreOf (map (λ global. global.ty) (take i vars)) values → length vars ≤ i → AreOf (map (λ global. global.ty) vars) values
all_typed vars i values h l = subst (λ (v : List GlobalVar). AreOf (map (λ global. global.ty) v) values) (take_all i vars l) h

pub all_bytes : (bytes : List ℕ) → ((i : ℕ) → get_or bytes i 0 < 256) → AllByRecursion (λ byte. byte < 256) bytes
all_bytes [] h = tt
all_bytes (b ∷ bs) h = (h 0, all_bytes bs (λ i. h (suc i)))

as_many : (types : List ValType) (values : List ℕ) → AreOf types values → length types ≡ length values
as_many [] [] h = refl
as_many [] (x ∷ xs) h = absurd h
as_many (type ∷ types) [] h = absurd h
as_many (type ∷ types) (x ∷ xs) h = ap suc (as_many types xs h.1)

pub can_run : (checked : Checked) → IsChecked checked → (m : Module) → m ≡ checked.of → (functions : List Function) (globals memory : List ℕ) (cells blocks callers : ℕ) →
    ArePrepared m functions → length memory ≡ memory_size checked.of.memory → AllByRecursion (λ byte. byte < 256) memory → AreOf (map (λ global. global.ty) checked.of.globals) globals →
    cells ≡ checked.stack → blocks ≡ checked.marks → callers ≡ checked.marks → CanRun (running checked globals memory true) functions cells blocks callers
can_run checked is m same functions globals memory cells blocks callers p l b t n k d =
    record {
      ready = record {
        section = checked.section;
        valid = is.valid;
        bounds = subst (λ x. AreBounds checked.of x blocks) (sym n) (subst (λ x. AreBounds checked.of checked.stack x) (sym k) is.bounds);
        prepared = subst (λ m. ArePrepared m functions) same p;
      };
      alike = d ∙ sym k;
      globals = sym (as_many (map (λ (global : GlobalVar). global.ty) checked.of.globals) globals t) ∙ length-map checked.of.globals (λ (global : GlobalVar). global.ty);
      memory = l;
      instance = λ live. record { typed = t; own = record { size = l; bytes = b } };
    }
