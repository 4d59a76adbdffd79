-- The functions of a valid module.
use Rattle.std.proofs.Common.{◌≡◌, ℕ, zero, suc, ◌<◌, ◌≤◌, List, [], ◌∷◌, ◌++◌, length, Option, Some, refl, sym, ap, ◌∙◌, subst, arith, false}
use Rattle.std.specs.Prelude.{slice_get, map, reverse, unwrap_or}
use Rattle.std.specs.List.{AllByRecursion, flat_map}
use Rattle.std.specs.Option.{option_map}
use Rattle.std.proofs.lemmas.Option.{slice_get_within, slice_get-map}
use Rattle.std.proofs.lemmas.List.{length-map}
use Rattle.wasm_tree.specs.declared.module.FuncType.{FuncType}
use Rattle.wasm_tree.specs.declared.module.FuncBody.{FuncBody}
use Rattle.wasm_tree.specs.declared.module.ImportKind.{ImportKind}
use Rattle.wasm_tree.specs.declared.module.Import.{Import}
use Rattle.wasm_tree.specs.declared.module.Module.{Module}
use Rattle.wasm_tree.specs.Instance.{functions_of, funcs_of}
use Rattle.wasm_tree.specs.Numbers.{no_type, emit_type, type_at, imported_type, imported_types, function_types, declared_locals}
use Rattle.wasm_tree.specs.Reduce.{Func, pieces, tree_of, whole_piece}
use Rattle.wasm_tree.specs.Section.{CmajorSection}
use Rattle.wasm_tree.specs.Typed.{Typed}
use Rattle.wasm_tree.specs.Valid.{Valid, EachBody, IsBody}
use Rattle.wasm_sound.specs.Sound.{IsScope, IsFunc}
use Rattle.wasm_runner.specs.declared.function.Function.{Function}
use Rattle.wasm_runner.specs.Activations.{IsProgram, IsPrepared}
use Rattle.wasm_runner.specs.Prepared.{scope_of, ArePrepared}

few_of : (types : List FuncType) (n : ℕ) → AllByRecursion (λ type. length type.results ≤ 1) types → length (unwrap_or (slice_get types n) no_type).results ≤ 1
few_of [] n h = none n
  where
    none : (n : ℕ) → length (unwrap_or (slice_get [] n) no_type).results ≤ 1
    none zero = omega arith
    none (suc n) = omega arith
few_of (t ∷ ts) zero h = h.0
few_of (t ∷ ts) (suc n) h = few_of ts n h.1

module _ (m : Module) where
  -- a function of the type of this number with this body, as the machine runs it
  abbrev pub func_of : ℕ → FuncBody → Func
  func_of type body =
      record { params = length (type_at m type).params; results = length (type_at m type).results; locals = length (declared_locals body.locals); body = tree_of body.code }

  -- the function of this number among these
  pub record Own (types : List ℕ) (bodies : List FuncBody) (n : ℕ) : Type 0 where
    pub type : ℕ
    pub body : FuncBody
    pub has_type : slice_get types n ≡ Some type
    pub has_body : slice_get bodies n ≡ Some body
    pub has_func : slice_get (functions_of m types bodies) n ≡ Some (func_of type body)
    pub is : IsBody m (type_at m type) body

  pub own_at : (types : List ℕ) (bodies : List FuncBody) (n : ℕ) → EachBody (IsBody m) m types bodies → n < length types → Own types bodies n
  own_at [] bodies n h l = absurd (omega arith)
  own_at (t ∷ ts) [] n h l = absurd h
  own_at (t ∷ ts) (b ∷ bs) zero h l = record { type = t; body = b; has_type = refl; has_body = refl; has_func = refl; is = h.0 }
  own_at (t ∷ ts) (b ∷ bs) (suc n) h l =
      let r = own_at ts bs n h.1 (omega arith) in
      record { type = r.type; body = r.body; has_type = r.has_type; has_body = r.has_body; has_func = r.has_func; is = r.is }

  pub as_many : (types : List ℕ) (bodies : List FuncBody) → EachBody (IsBody m) m types bodies → (length bodies ≡ length types) × (length (functions_of m types bodies) ≡ length types)
  as_many [] bodies h = (ap length h, refl)
  as_many (t ∷ ts) [] h = absurd h
  as_many (t ∷ ts) (b ∷ bs) h = let r = as_many ts bs h.1 in let r0 = r.0 in let r1 = r.1 in (omega arith, omega arith)

module _ (m : Module) (section : CmajorSection) (v : Valid m section) where
  abbrev bodies_are : EachBody (IsBody m) m m.functions m.codes
  bodies_are = v.typing.bodies

  imports_are : imported_types m ≡ emit_type ∷ []
  imports_are =
      let i = v.interface.imports in
      ap (λ (l : List Import). flat_map (λ import. imported_type m import.kind) l) i.only
      ∙ ap (λ (k : ImportKind). imported_type m k ++ []) i.function
      ∙ ap (λ (o : Option FuncType). unwrap_or o no_type ∷ []) i.takes

  pub types_are : function_types m ≡ emit_type ∷ map (type_at m) m.functions
  types_are = ap (λ l. l ++ map (type_at m) m.functions) imports_are

  func_is : (n : ℕ) (o : Own m m.functions m.codes n) → IsFunc (scope_of m) (type_at m o.type) (func_of m o.type o.body)
  func_is n o =
      let same : o.is.tree ≡ tree_of o.body.code = sym (ap whole_piece o.is.spells) in
      record {
        declared = declared_locals o.body.locals;
        params = refl;
        results = refl;
        locals = refl;
        few = few_of m.types o.type v.typing.types;
        typed = subst (λ t. Typed (record { functions = function_types m; locals = (type_at m o.type).params ++ declared_locals o.body.locals; globals = m.globals; results = (type_at m o.type).results })
            (reverse (type_at m o.type).results ∷ []) t [] (reverse (type_at m o.type).results)) same o.is.typed;
      }

  pub spells_it : (n : ℕ) (o : Own m m.functions m.codes n) → pieces o.body.code ≡ record { arm = false; rest = tree_of o.body.code } ∷ []
  spells_it n o = o.is.spells ∙ ap (λ t. record { arm = false; rest = t } ∷ []) (sym (ap whole_piece o.is.spells))

  pub scope_is : IsScope (scope_of m)
  scope_is = record { emit = ap (λ l. slice_get l 0) types_are; own = by }
    where
      by : (n : ℕ) (type : FuncType) → slice_get (function_types m) (suc n) ≡ Some type → (f : Func) × (slice_get (funcs_of m) n ≡ Some f) × IsFunc (scope_of m) type f
      by n type e =
          let g : slice_get (map (type_at m) m.functions) n ≡ Some type = sym (ap (λ l. slice_get l (suc n)) types_are) ∙ e in
          let w = slice_get_within (map (type_at m) m.functions) n type g in
          let k = length-map m.functions (type_at m) in
          let o = own_at m m.functions m.codes n bodies_are (omega arith) in
          let h : Some (type_at m o.type) ≡ Some type = sym (ap (option_map (type_at m)) o.has_type) ∙ sym (slice_get-map (type_at m) m.functions n) ∙ g in
          let same : type_at m o.type ≡ type = cc in
          (func_of m o.type o.body, o.has_func, subst (λ t. IsFunc (scope_of m) t (func_of m o.type o.body)) same (func_is n o))

  pub program_is : (functions : List Function) → ArePrepared m functions → IsProgram (scope_of m) m.codes functions
  program_is functions p = record { is = scope_is; own = own; jumps = jumps }
    where
      many : (length m.codes ≡ length m.functions) × (length (funcs_of m) ≡ length m.functions)
      many = as_many m m.functions m.codes bodies_are

      own : (n : ℕ) (f : Func) → slice_get (funcs_of m) n ≡ Some f → (body : FuncBody) × (function : Function) × (slice_get m.codes n ≡ Some body) × (slice_get functions n ≡ Some function) × IsPrepared body f function
      own n f e =
          let w = slice_get_within (funcs_of m) n f e in let l = many.1 in
          let o = own_at m m.functions m.codes n bodies_are (omega arith) in
          let q = p n o.type o.body o.has_type o.has_body in
          let same : func_of m o.type o.body ≡ f = let k : Some (func_of m o.type o.body) ≡ Some f = sym o.has_func ∙ e in cc in
          (o.body, q.0, o.has_body, q.1, subst (λ f. IsPrepared o.body f q.0) same (record { params = q.2.params; locals = q.2.locals; results = q.2.results; spells = spells_it n o }))

      jumps : (n : ℕ) (body : FuncBody) → slice_get m.codes n ≡ Some body → (function : Function) × (slice_get functions n ≡ Some function) × Rattle.wasm_runner.specs.Jumps.AreJumps body.code function.jumps.items
      jumps n body e =
          let w = slice_get_within m.codes n body e in let l = many.0 in
          let o = own_at m m.functions m.codes n bodies_are (omega arith) in
          let q = p n o.type o.body o.has_type o.has_body in
          let same : o.body ≡ body = let k : Some o.body ≡ Some body = sym o.has_body ∙ e in cc in
          (q.0, q.1, subst (λ (b : FuncBody). Rattle.wasm_runner.specs.Jumps.AreJumps b.code q.0.jumps.items) same q.2.jumps)
