-- Operands have the types that instructions take, and what they leave has theirs.
use Rattle.std.proofs.Common.{◌≡◌, ℕ, zero, suc, ◌<◌, ◌≤◌, List, [], ◌∷◌, ◌++◌, length, take, drop, Some, refl, sym, ap, subst, arith}
use Rattle.std.specs.Prelude.{slice_get, slice_set, replicate, map}
use Rattle.wasm_tree.specs.declared.module.ValType.{ValType}
use Rattle.wasm_tree.specs.declared.module.ValType.TheVariants.{I32, I64}
use Rattle.wasm_tree.specs.declared.instr.Instr.{Instr}
use Rattle.wasm_tree.specs.Reduce.{Seq, Plain, State, Label, CallFrame, at}
use Rattle.wasm_tree.specs.Typed.{Takes}
use Rattle.wasm_sound.specs.Kinds.{IsOf, AreOf}
use Rattle.wasm_sound.specs.Sound.{Scope, IsSound, most_memory}

-- ---- values of types

pub same_length : (types : List ValType) (values : List ℕ) → AreOf types values → length values ≡ length types
same_length [] [] h = refl
same_length [] (x ∷ xs) h = absurd h
same_length (t ∷ ts) [] h = absurd h
same_length (t ∷ ts) (x ∷ xs) h = let e = same_length ts xs h.1 in omega arith

pub joined : (types more : List ValType) (values others : List ℕ) → AreOf types values → AreOf more others → AreOf (types ++ more) (values ++ others)
joined [] more [] others h g = g
joined [] more (x ∷ xs) others h g = absurd h
joined (t ∷ ts) more [] others h g = absurd h
joined (t ∷ ts) more (x ∷ xs) others h g = (h.0, joined ts more xs others h.1 g)

pub record Split (ins below : List ValType) (values : List ℕ) : Type 0 where
  pub front : List ℕ
  pub back : List ℕ
  pub is : values ≡ front ++ back
  pub ins_are : AreOf ins front
  pub below_are : AreOf below back

pub split : (ins below : List ValType) (values : List ℕ) → AreOf (ins ++ below) values → Split ins below values
split [] below values h = record { front = []; back = values; is = refl; ins_are = tt; below_are = h }
split (t ∷ ts) below [] h = absurd h
split (t ∷ ts) below (x ∷ xs) h =
    let s = split ts below xs h.1 in
    record { front = x ∷ s.front; back = s.back; is = ap (λ l. x ∷ l) s.is; ins_are = (h.0, s.ins_are); below_are = s.below_are }

-- the front by length
pub front_is : (types : List ValType) (front back : List ℕ) → AreOf types front → take (length types) (front ++ back) ≡ front
front_is [] [] back h = refl
front_is [] (x ∷ xs) back h = absurd h
front_is (t ∷ ts) [] back h = absurd h
front_is (t ∷ ts) (x ∷ xs) back h = ap (λ l. x ∷ l) (front_is ts xs back h.1)

pub back_is : (types : List ValType) (front back : List ℕ) → AreOf types front → drop (length types) (front ++ back) ≡ back
back_is [] [] back h = refl
back_is [] (x ∷ xs) back h = absurd h
back_is (t ∷ ts) [] back h = absurd h
back_is (t ∷ ts) (x ∷ xs) back h = back_is ts xs back h.1

pub zero_is : (type : ValType) → IsOf type 0
zero_is I32 = omega arith
zero_is I64 = omega arith

pub zeros_are : (types : List ValType) → AreOf types (replicate (length types) 0)
zeros_are [] = tt
zeros_are (t ∷ ts) = (zero_is t, zeros_are ts)

pub one_at : (types : List ValType) (values : List ℕ) (n : ℕ) (type : ValType) → AreOf types values → slice_get types n ≡ Some type →
    (x : ℕ) × (slice_get values n ≡ Some x) × IsOf type x × (n < length values)
one_at [] values zero type h e = absurd (cc)
one_at [] values (suc n) type h e = absurd (cc)
one_at (t ∷ ts) [] n type h e = absurd h
one_at (t ∷ ts) (x ∷ xs) zero type h e = let same : t ≡ type = cc in (x, refl, subst (λ t. IsOf t x) same h.0, omega arith)
one_at (t ∷ ts) (x ∷ xs) (suc n) type h e = let r = one_at ts xs n type h.1 e in let l = r.3 in (r.0, r.1, r.2, omega arith)

pub set_at : (types : List ValType) (values : List ℕ) (n x : ℕ) (type : ValType) → AreOf types values → slice_get types n ≡ Some type → IsOf type x → AreOf types (slice_set values n x)
set_at [] values zero x type h e g = absurd (cc)
set_at [] values (suc n) x type h e g = absurd (cc)
set_at (t ∷ ts) [] n x type h e g = absurd h
set_at (t ∷ ts) (y ∷ ys) zero x type h e g = let same : type ≡ t = cc in (subst (λ t. IsOf t x) same g, h.1)
set_at (t ∷ ts) (y ∷ ys) (suc n) x type h e g = (h.0, set_at ts ys n x type h.1 e g)

-- ---- what an instruction takes

-- the operands that a typed instruction takes are there, and with its results in their place what follows is typed
pub record Takes1 (scope : Scope) (ins outs : List ValType) (s : Seq) (st : State) (ls : List Label) (fs : List CallFrame) (locals : List ValType) : Type 0 where
  pub front : List ℕ
  pub back : List ℕ
  pub is : st.values ≡ front ++ back
  pub ins_are : AreOf ins front
  pub then_sound : (zs : List ℕ) (st' : State) → AreOf outs zs → st'.values ≡ zs ++ back → AreOf locals st'.locals → AreOf (map (λ var. var.ty) scope.vars) st'.globals → length st'.memory ≤ most_memory → IsSound scope (at s st' ls fs)

pub took : (scope : Scope) (i : Instr) (s : Seq) (st : State) (ls : List Label) (fs : List CallFrame) (o : IsSound scope (at (Plain i s) st ls fs)) (ins outs : List ValType) →
    Takes ins outs o.operands o.typed.0 → Takes1 scope ins outs s st ls fs o.locals
took scope i s st ls fs o ins outs t =
    let p = split ins t.below st.values (subst (λ l. AreOf l st.values) t.had o.held) in
    record {
      front = p.front;
      back = p.back;
      is = p.is;
      ins_are = p.ins_are;
      then_sound = λ zs st' outs_are e own shared memory. record {
        locals = o.locals;
        results = o.results;
        few = o.few;
        operands = o.typed.0;
        held = subst (λ l. AreOf l st'.values) (sym t.has) (subst (AreOf (outs ++ t.below)) (sym e) (joined outs t.below zs p.back outs_are p.below_are));
        own = own;
        shared = shared;
        memory = memory;
        labels = o.labels;
        after = o.after;
        typed = o.typed.2;
        open_labels = o.open_labels;
        callers = o.callers;
      };
    }
