-- The parts of a state file of version 2, and the whole of it, are read as they are spelled.
use Rattle.std.proofs.Common.{◌≡◌, ℕ, ℤ, zero, suc, ◌<◌, ◌^◌, List, [], ◌∷◌, ◌++◌, length, Bool, true, false, Option, Some, None, if◌then◌else◌, FitsSigned, refl, sym, ap, subst, ◌∙◌, append_assoc, arith}
use Rattle.std.specs.Int.{w32, w64, cast_signed, cast_unsigned, to_le_bytes, from_le_bytes}
use Rattle.std.specs.List.{AllByRecursion, flat_map}
use Rattle.std.specs.Str.{IsUtf8, is_utf8}
use Rattle.std.proofs.lemmas.Int.{of_z-to_z, to_z-of_z}
use Rattle.std.proofs.Math.Facts.{Fits-of_z, Fits-lt-pow, Fits-of_lt, sfits_to_z}
use Rattle.std.proofs.lemmas.List.{append-nil}
use Rattle.std.proofs.lemmas.Nat.{le_bytes_4, le_bytes_8, from_le_bytes-to_le_bytes_4, from_le_bytes-to_le_bytes_8}
use Rattle.std.proofs.lemmas.Str.{is_utf8-from_IsUtf8, IsUtf8-from_is_utf8}
use Rattle.cm_base.specs.declared.play.Saved.{Saved}
use Rattle.saved_state.specs.declared.state.Version2.{Version2}
use Rattle.saved_state.specs.Reading.{◌>>=◌, Reader, bytes_at, count_at, value_at, scalar_at, text_at, name_at, parameter_at, each_at, list_at, state_at}
use Rattle.saved_state.specs.Version2.{count_bytes, text_bytes, value_bytes, scalar_bytes, list_bytes, parameter_bytes, IsCounted, IsParameter, IsScalar, IsWritable}
use Rattle.saved_state.proofs.Codes.{AreBytes, read, first_is, rest_is, byte_of_front, stepped, IsCode, Found, bytes_again, bytes_taken, are_bytes-rest}

abbrev IsNumber : ℕ → Type 0
IsNumber n = n < 2 ^ 32

-- ---- numbers

below_4 : (bs : List ℕ) → AreBytes bs → from_le_bytes w32 bs < 2 ^ 32
below_4 bs all = omega (arith, all 0, all 1, all 2, all 3)

below_8 : (bs : List ℕ) → AreBytes bs → from_le_bytes w64 bs < 2 ^ 64
below_8 bs all = omega (arith, all 0, all 1, all 2, all 3, all 4, all 5, all 6, all 7)

-- a fixed number of bytes that stand for something
pub record IsFixed {X : Type 0} (n : ℕ) (decode : List ℕ → X) (spell : X → List ℕ) (P : X → Type 0) : Type 0 where
  pub long : (x : X) → length (spell x) ≡ n
  pub back : (x : X) → P x → decode (spell x) ≡ x
  pub forth : (bs : List ℕ) → length bs ≡ n → AreBytes bs → spell (decode bs) ≡ bs
  pub may : (bs : List ℕ) → length bs ≡ n → AreBytes bs → P (decode bs)

abbrev fixed_at : {X : Type 0} → ℕ → (List ℕ → X) → Reader X
fixed_at n decode bytes = bytes_at n bytes >>= λ front. Some (decode front.0, front.1)

fixed_again : {X : Type 0} {n : ℕ} {decode : List ℕ → X} {spell : X → List ℕ} {P : X → Type 0} → IsFixed n decode spell P → (x : X) (rest : List ℕ) → P x → fixed_at n decode (spell x ++ rest) ≡ Some (x, rest)
fixed_again {X} {n} {decode} {spell} fixed x rest p =
    let read : bytes_at n (spell x ++ rest) ≡ Some (spell x, rest) = subst (λ k. bytes_at k (spell x ++ rest) ≡ Some (spell x, rest)) (fixed.long x) (bytes_again (spell x) rest) in
    rw (read, fixed.back x p) refl

fixed_found : {X : Type 0} {n : ℕ} {decode : List ℕ → X} {spell : X → List ℕ} {P : X → Type 0} → IsFixed n decode spell P → (bytes : List ℕ) (x : X) (rest : List ℕ) → AreBytes bytes → fixed_at n decode bytes ≡ Some (x, rest) → Found spell P bytes x rest
fixed_found {X} {n} {decode} {spell} {P} fixed bytes x rest all h =
    let step = stepped (bytes_at n bytes) (λ front. Some (decode front.0, front.1)) (x, rest) h in
    let taken = bytes_taken n bytes step.x.0 step.x.1 step.is in
    let same : decode step.x.0 ≡ x = first_is (decode step.x.0) x step.x.1 rest step.gives in
    let left : step.x.1 ≡ rest = rest_is (decode step.x.0) x step.x.1 rest step.gives in
    let front : AreBytes step.x.0 = λ i. byte_of_front step.x.0 step.x.1 i (subst AreBytes taken.whole all) in
    record {
      whole = taken.whole ∙ (ap (λ f. f ++ step.x.1) (sym (fixed.forth step.x.0 taken.long front)) ∙ (ap (λ y. spell y ++ step.x.1) same ∙ ap (λ r. spell x ++ r) left));
      may = subst P same (fixed.may step.x.0 taken.long front);
      left = subst AreBytes left (are_bytes-rest step.x.0 step.x.1 (subst AreBytes taken.whole all));
    }

fixed_code : {X : Type 0} {n : ℕ} {decode : List ℕ → X} {spell : X → List ℕ} {P : X → Type 0} → IsFixed n decode spell P → IsCode (fixed_at n decode) spell P
fixed_code fixed = record { again = fixed_again fixed; found = fixed_found fixed }

count_fixed : IsFixed 4 (from_le_bytes w32) count_bytes IsNumber
unfolding count_bytes
count_fixed = record {
  long = λ n. refl;
  back = λ n h. from_le_bytes-to_le_bytes_4 n h;
  forth = λ bs long all. le_bytes_4 bs (from_le_bytes w32 bs) long all refl;
  may = λ bs long all. below_4 bs all;
}

value_fixed : IsFixed 4 (λ bs. cast_signed w32 (from_le_bytes w32 bs)) value_bytes (FitsSigned w32)
unfolding value_bytes
value_fixed = record {
  long = λ z. refl;
  back = λ z h. ap (cast_signed w32) (from_le_bytes-to_le_bytes_4 (cast_unsigned w32 z) (Fits-lt-pow (Fits-of_z h))) ∙ to_z-of_z w32 z h;
  forth = λ bs long all. ap (to_le_bytes w32) (of_z-to_z w32 (from_le_bytes w32 bs) (below_4 bs all)) ∙ le_bytes_4 bs (from_le_bytes w32 bs) long all refl;
  may = λ bs long all. sfits_to_z (Fits-of_lt (below_4 bs all));
}

scalar_fixed : IsFixed 8 (λ bs. cast_signed w64 (from_le_bytes w64 bs)) scalar_bytes IsScalar
unfolding scalar_bytes
scalar_fixed = record {
  long = λ z. refl;
  back = λ z h. ap (cast_signed w64) (from_le_bytes-to_le_bytes_8 (cast_unsigned w64 z) (Fits-lt-pow (Fits-of_z h))) ∙ to_z-of_z w64 z h;
  forth = λ bs long all. ap (to_le_bytes w64) (of_z-to_z w64 (from_le_bytes w64 bs) (below_8 bs all)) ∙ le_bytes_8 bs (from_le_bytes w64 bs) long all refl;
  may = λ bs long all. sfits_to_z (Fits-of_lt (below_8 bs all));
}

count_code : IsCode count_at count_bytes IsNumber
unfolding count_at
count_code = fixed_code count_fixed

value_code : IsCode value_at value_bytes (FitsSigned w32)
unfolding value_at
value_code = fixed_code value_fixed

scalar_code : IsCode scalar_at scalar_bytes IsScalar
unfolding scalar_at
scalar_code = fixed_code scalar_fixed

-- ---- texts

text_again : (text rest : List ℕ) → IsCounted text → text_at (text_bytes text ++ rest) ≡ read text rest
unfolding text_at
text_again text rest short =
    let whole : text_bytes text ++ rest ≡ count_bytes (length text) ++ (text ++ rest) = append_assoc (count_bytes (length text)) text rest in
    rw (whole, count_code.again (length text) (text ++ rest) short) (bytes_again text rest)

text_found : (bytes text rest : List ℕ) → AreBytes bytes → text_at bytes ≡ read text rest → Found text_bytes IsCounted bytes text rest
unfolding text_at
text_found bytes text rest all h =
    let step = stepped (count_at bytes) (λ count. bytes_at count.0 count.1) (text, rest) h in
    let count = count_code.found bytes step.x.0 step.x.1 all step.is in
    let taken = bytes_taken step.x.0 step.x.1 text rest step.gives in
    let behind : AreBytes (text ++ rest) = subst AreBytes taken.whole count.left in
    record {
      whole = count.whole ∙ (ap (λ r. count_bytes step.x.0 ++ r) taken.whole ∙ (ap (λ n. count_bytes n ++ (text ++ rest)) (sym taken.long) ∙ sym (append_assoc (count_bytes (length text)) text rest)));
      may = subst IsNumber (sym taken.long) count.may;
      left = are_bytes-rest text rest behind;
    }

text_code : IsCode text_at text_bytes IsCounted
text_code = record { again = text_again; found = text_found }

-- a name that can be written
abbrev IsWord : List ℕ → Type 0
IsWord name = IsUtf8 name × IsCounted name

name_again : (name rest : List ℕ) → IsWord name → name_at (text_bytes name ++ rest) ≡ read name rest
unfolding name_at
name_again name rest is = rw (text_again name rest is.1, is_utf8-from_IsUtf8 name is.0) refl

abbrev pair_or : List ℕ × List ℕ → Option (List ℕ × List ℕ) → List ℕ × List ℕ
pair_or found None = found
pair_or found (Some other) = other

kept : (truth : Bool) (found other : List ℕ × List ℕ) → (if truth then Some found else None) ≡ Some other → (truth ≡ true) × (found ≡ other)
kept false found other h = absurd (cc)
kept true found other h = (refl, ap (pair_or found) h)

name_found : (bytes name rest : List ℕ) → AreBytes bytes → name_at bytes ≡ read name rest → Found text_bytes IsWord bytes name rest
unfolding name_at
name_found bytes name rest all h =
    let step = stepped (text_at bytes) (λ text. if is_utf8 text.0 then Some text else None) (name, rest) h in
    let is = kept (is_utf8 step.x.0) step.x (name, rest) step.gives in
    let text = text_found bytes name rest all (step.is ∙ ap (λ found. Some found) is.1) in
    let utf8 : IsUtf8 name = IsUtf8-from_is_utf8 name (ap (λ (found : List ℕ × List ℕ). is_utf8 found.0) (sym is.1) ∙ is.0) in
    record { whole = text.whole; may = (utf8, text.may); left = text.left }

-- ---- parameters

abbrev saved_as : List ℕ → ℤ → Saved
saved_as name value = record { name = name; value = value }

parameter_again : (saved : Saved) (rest : List ℕ) → IsParameter saved → parameter_at (parameter_bytes saved ++ rest) ≡ read saved rest
unfolding parameter_at
parameter_again saved rest is =
    let whole : parameter_bytes saved ++ rest ≡ text_bytes saved.name ++ (value_bytes saved.value ++ rest) = append_assoc (text_bytes saved.name) (value_bytes saved.value) rest in
    rw (whole, name_again saved.name (value_bytes saved.value ++ rest) (is.utf8, is.short), value_code.again saved.value rest is.fits) refl

parameter_found : (bytes : List ℕ) (saved : Saved) (rest : List ℕ) → AreBytes bytes → parameter_at bytes ≡ read saved rest → Found parameter_bytes IsParameter bytes saved rest
unfolding parameter_at
parameter_found bytes saved rest all h =
    let one = stepped (name_at bytes) (λ name. value_at name.1 >>= λ value. read (saved_as name.0 value.0) value.1) (saved, rest) h in
    let two = stepped (value_at one.x.1) (λ value. read (saved_as one.x.0 value.0) value.1) (saved, rest) one.gives in
    let name = name_found bytes one.x.0 one.x.1 all one.is in
    let value = value_code.found one.x.1 two.x.0 two.x.1 name.left two.is in
    let is : saved_as one.x.0 two.x.0 ≡ saved = first_is (saved_as one.x.0 two.x.0) saved two.x.1 rest two.gives in
    let left : two.x.1 ≡ rest = rest_is (saved_as one.x.0 two.x.0) saved two.x.1 rest two.gives in
    let whole : bytes ≡ parameter_bytes (saved_as one.x.0 two.x.0) ++ two.x.1 =
    name.whole ∙ (ap (λ r. text_bytes one.x.0 ++ r) value.whole ∙ sym (append_assoc (text_bytes one.x.0) (value_bytes two.x.0) two.x.1)) in
    let may : IsParameter (saved_as one.x.0 two.x.0) = record { utf8 = name.may.0; short = name.may.1; fits = value.may } in
    record {
      whole = whole ∙ (ap (λ x. parameter_bytes x ++ two.x.1) is ∙ ap (λ r. parameter_bytes saved ++ r) left);
      may = subst IsParameter is may;
      left = subst AreBytes left value.left;
    }

parameter_code : IsCode parameter_at parameter_bytes IsParameter
parameter_code = record { again = parameter_again; found = parameter_found }

-- ---- lists

abbrev empty_of : (X : Type 0) → List X
empty_of X = []

each_again : {X : Type 0} {f : Reader X} {spell : X → List ℕ} {P : X → Type 0} → IsCode f spell P → (xs : List X) (rest : List ℕ) → AllByRecursion P xs → each_at f (length xs) (flat_map spell xs ++ rest) ≡ read xs rest
unfolding each_at
each_again code [] rest all = refl
each_again {X} {f} {spell} code (x ∷ xs) rest all =
    let whole : flat_map spell (x ∷ xs) ++ rest ≡ spell x ++ (flat_map spell xs ++ rest) = append_assoc (spell x) (flat_map spell xs) rest in
    rw (whole, code.again x (flat_map spell xs ++ rest) all.0, each_again code xs rest all.1) refl

-- elements that were read, as many as were asked for
record FoundEach {X : Type 0} (spell : X → List ℕ) (P : X → Type 0) (n : ℕ) (bytes : List ℕ) (xs : List X) (rest : List ℕ) : Type 0 where
  pub long : length xs ≡ n
  pub whole : bytes ≡ flat_map spell xs ++ rest
  pub may : AllByRecursion P xs
  pub left : AreBytes rest

each_found : {X : Type 0} {f : Reader X} {spell : X → List ℕ} {P : X → Type 0} → IsCode f spell P → (n : ℕ) (bytes : List ℕ) (xs : List X) (rest : List ℕ) → AreBytes bytes → each_at f n bytes ≡ read xs rest → FoundEach spell P n bytes xs rest
unfolding each_at
each_found {X} {f} {spell} {P} code zero bytes xs rest all h =
    let is : empty_of X ≡ xs = first_is [] xs bytes rest h in
    let left : bytes ≡ rest = rest_is [] xs bytes rest h in
    record { long = ap length (sym is); whole = left ∙ ap (λ (ys : List X). flat_map spell ys ++ rest) is; may = subst (AllByRecursion P) is tt; left = subst AreBytes left all }
each_found {X} {f} {spell} {P} code (suc n) bytes xs rest all h =
    let one = stepped (f bytes) (λ first. each_at f n first.1 >>= λ others. read (first.0 ∷ others.0) others.1) (xs, rest) h in
    let two = stepped (each_at f n one.x.1) (λ others. read (one.x.0 ∷ others.0) others.1) (xs, rest) one.gives in
    let first = code.found bytes one.x.0 one.x.1 all one.is in
    let others = each_found code n one.x.1 two.x.0 two.x.1 first.left two.is in
    let is : one.x.0 ∷ two.x.0 ≡ xs = first_is (one.x.0 ∷ two.x.0) xs two.x.1 rest two.gives in
    let left : two.x.1 ≡ rest = rest_is (one.x.0 ∷ two.x.0) xs two.x.1 rest two.gives in
    let whole : bytes ≡ flat_map spell (one.x.0 ∷ two.x.0) ++ two.x.1 =
    first.whole ∙ (ap (λ r. spell one.x.0 ++ r) others.whole ∙ sym (append_assoc (spell one.x.0) (flat_map spell two.x.0) two.x.1)) in
    record {
      long = ap length (sym is) ∙ ap suc others.long;
      whole = whole ∙ (ap (λ (ys : List X). flat_map spell ys ++ two.x.1) is ∙ ap (λ r. flat_map spell xs ++ r) left);
      may = subst (AllByRecursion P) is (first.may, others.may);
      left = subst AreBytes left others.left;
    }

abbrev AreCounted : {X : Type 0} → (X → Type 0) → List X → Type 0
AreCounted P xs = IsCounted xs × AllByRecursion P xs

list_again : {X : Type 0} {f : Reader X} {spell : X → List ℕ} {P : X → Type 0} → IsCode f spell P → (xs : List X) (rest : List ℕ) → AreCounted P xs → list_at f (list_bytes spell xs ++ rest) ≡ read xs rest
unfolding list_at
list_again {X} {f} {spell} code xs rest all =
    let whole : list_bytes spell xs ++ rest ≡ count_bytes (length xs) ++ (flat_map spell xs ++ rest) = append_assoc (count_bytes (length xs)) (flat_map spell xs) rest in
    rw (whole, count_code.again (length xs) (flat_map spell xs ++ rest) all.0) (each_again code xs rest all.1)

list_found : {X : Type 0} {f : Reader X} {spell : X → List ℕ} {P : X → Type 0} → IsCode f spell P → (bytes : List ℕ) (xs : List X) (rest : List ℕ) → AreBytes bytes → list_at f bytes ≡ read xs rest → Found (list_bytes spell) (AreCounted P) bytes xs rest
unfolding list_at
list_found {X} {f} {spell} {P} code bytes xs rest all h =
    let step = stepped (count_at bytes) (λ count. each_at f count.0 count.1) (xs, rest) h in
    let count = count_code.found bytes step.x.0 step.x.1 all step.is in
    let each = each_found code step.x.0 step.x.1 xs rest count.left step.gives in
    record {
      whole = count.whole ∙ (ap (λ r. count_bytes step.x.0 ++ r) each.whole ∙ (ap (λ n. count_bytes n ++ (flat_map spell xs ++ rest)) (sym each.long) ∙ sym (append_assoc (count_bytes (length xs)) (flat_map spell xs) rest)));
      may = (subst IsNumber (sym each.long) count.may, each.may);
      left = each.left;
    }

-- ---- the whole

-- what stands behind the mark
abbrev pub behind_mark : Version2 → List ℕ
behind_mark state =
    list_bytes parameter_bytes state.saved ++ (text_bytes state.module_bytes ++ (text_bytes state.snapshot.memory
    ++ (list_bytes scalar_bytes state.snapshot.globals ++ list_bytes scalar_bytes state.snapshot.current)))

pub state_again : (state : Version2) → IsWritable state → state_at (behind_mark state) ≡ read state []
unfolding state_at
state_again state is =
    let last : list_at scalar_at (list_bytes scalar_bytes state.snapshot.current) ≡ read state.snapshot.current [] =
    subst (λ bytes. list_at scalar_at bytes ≡ read state.snapshot.current []) (append-nil (list_bytes scalar_bytes state.snapshot.current)) (list_again scalar_code state.snapshot.current [] is.current) in
    rw (
      list_again parameter_code state.saved (text_bytes state.module_bytes ++ (text_bytes state.snapshot.memory ++ (list_bytes scalar_bytes state.snapshot.globals ++ list_bytes scalar_bytes state.snapshot.current))) is.saved,
      text_again state.module_bytes (text_bytes state.snapshot.memory ++ (list_bytes scalar_bytes state.snapshot.globals ++ list_bytes scalar_bytes state.snapshot.current)) is.module_bytes,
      text_again state.snapshot.memory (list_bytes scalar_bytes state.snapshot.globals ++ list_bytes scalar_bytes state.snapshot.current) is.memory,
      list_again scalar_code state.snapshot.globals (list_bytes scalar_bytes state.snapshot.current) is.globals,
      last,
    ) refl

abbrev state_of : List Saved → (code memory : List ℕ) → (globals current : List ℤ) → Version2
state_of saved code memory globals current = record { saved = saved; module_bytes = code; snapshot = record { memory = memory; globals = globals; current = current } }

pub state_found : (bytes : List ℕ) (state : Version2) → AreBytes bytes → state_at bytes ≡ read state [] → (bytes ≡ behind_mark state) × IsWritable state
unfolding state_at
state_found bytes state all h =
    let a = stepped (list_at parameter_at bytes) (λ saved. text_at saved.1 >>= λ code. text_at code.1 >>= λ memory. list_at scalar_at memory.1 >>= λ globals. list_at scalar_at globals.1 >>= λ current. read (state_of saved.0 code.0 memory.0 globals.0 current.0) current.1) (state, []) h in
    let b = stepped (text_at a.x.1) (λ code. text_at code.1 >>= λ memory. list_at scalar_at memory.1 >>= λ globals. list_at scalar_at globals.1 >>= λ current. read (state_of a.x.0 code.0 memory.0 globals.0 current.0) current.1) (state, []) a.gives in
    let c = stepped (text_at b.x.1) (λ memory. list_at scalar_at memory.1 >>= λ globals. list_at scalar_at globals.1 >>= λ current. read (state_of a.x.0 b.x.0 memory.0 globals.0 current.0) current.1) (state, []) b.gives in
    let d = stepped (list_at scalar_at c.x.1) (λ globals. list_at scalar_at globals.1 >>= λ current. read (state_of a.x.0 b.x.0 c.x.0 globals.0 current.0) current.1) (state, []) c.gives in
    let e = stepped (list_at scalar_at d.x.1) (λ current. read (state_of a.x.0 b.x.0 c.x.0 d.x.0 current.0) current.1) (state, []) d.gives in
    let saved = list_found parameter_code bytes a.x.0 a.x.1 all a.is in
    let code = text_found a.x.1 b.x.0 b.x.1 saved.left b.is in
    let memory = text_found b.x.1 c.x.0 c.x.1 code.left c.is in
    let globals = list_found scalar_code c.x.1 d.x.0 d.x.1 memory.left d.is in
    let current = list_found scalar_code d.x.1 e.x.0 e.x.1 globals.left e.is in
    let made : Version2 = state_of a.x.0 b.x.0 c.x.0 d.x.0 e.x.0 in
    let is : made ≡ state = first_is made state e.x.1 [] e.gives in
    let none : e.x.1 ≡ [] = rest_is made state e.x.1 [] e.gives in
    let last : d.x.1 ≡ list_bytes scalar_bytes e.x.0 = current.whole ∙ (ap (λ r. list_bytes scalar_bytes e.x.0 ++ r) none ∙ append-nil (list_bytes scalar_bytes e.x.0)) in
    let whole : bytes ≡ behind_mark made =
    saved.whole ∙ ap (λ r. list_bytes parameter_bytes a.x.0 ++ r) (
    code.whole ∙ ap (λ r. text_bytes b.x.0 ++ r) (
    memory.whole ∙ ap (λ r. text_bytes c.x.0 ++ r) (
    globals.whole ∙ ap (λ r. list_bytes scalar_bytes d.x.0 ++ r) last))) in
    let may : IsWritable made = record { saved = saved.may; module_bytes = code.may; memory = memory.may; globals = globals.may; current = current.may } in
    (whole ∙ ap behind_mark is, subst IsWritable is may)
