-- What is read is the module that the bytes spell, where none is read a rule fails, and what is spelled is read.
use Rattle.std.proofs.Common.{◌≡◌, ℕ, suc, ◌-◌, eqb, eq-eqb, List, [], ◌∷◌, ◌++◌, length, Ok, Err, refl, sym, ap, ◌∙◌, arith, inl, inr}
use Rattle.std.proofs.lemmas.Bool.{eqb-true, eqb-false}
use Rattle.std.proofs.lemmas.List.{length-append}
use Rattle.wasm_tree.specs.declared.failure.ModuleRule.TheVariants as rule
use Rattle.wasm_tree.specs.declared.module.Module.{Module}
use Rattle.wasm_tree.specs.Spelled.{Joined, Is, Each, Index, Type_of_function, Imported, Memory, Global, Exported, Body, Data, Raw, RawSection, header, Spelled}
use Rattle.wasm_reader.specs.declared.fault.Fault.{Fault}
use Rattle.wasm_reader.specs.Fault.{NoModule, Differs, FailsAt}
use Rattle.wasm_reader.specs.Reading.{Parts, at, header_byte_at, header_at, sections_at, whole_of, module_at}
use Rattle.wasm_reader.proofs.Records.{memory-reads, function_type-reads, import-reads, export-reads, global-reads, segment-reads}
use Rattle.wasm_reader.proofs.Control.{body-reads}
use Rattle.wasm_reader.proofs.NumberLaws.{index-reads}
use Rattle.wasm_reader.proofs.Ends.{Ends, ok_is, with_value, with_fault, step, weaker, by_test}
use Rattle.wasm_reader.proofs.Readers.{Broken}
use Rattle.wasm_reader.proofs.Sections.{begin, Chain, Both, Nothing, section-chain, last-chain}

-- ---- the header

-- the first byte that isn't the one due
abbrev Off : List ℕ → List ℕ → Fault → Type 0
Off dues bytes x = (front : List ℕ) × (back : List ℕ) × (more : List ℕ) × (bytes ≡ front ++ back) × (dues ≡ front ++ more) × (x ≡ at rule.Header (length back)) × Differs back more

-- the header is there, or a byte differs
header-ends : (dues bytes : List ℕ) → Ends (λ rest. bytes ≡ dues ++ rest) (Off dues bytes) (header_at dues bytes)
unfolding header_at header_byte_at
header-ends [] bytes = with_value bytes refl
header-ends (due ∷ dues) [] = with_fault (at rule.Header 0) ([], [], due ∷ dues, refl, refl, refl, tt)
header-ends (due ∷ dues) (b ∷ bytes) =
    step _ (by_test {G = λ rest. b ∷ bytes ≡ due ∷ rest} {N = Off (due ∷ dues) (b ∷ bytes)} (eqb b due) (λ p. with_value bytes (ap (λ (z : ℕ). z ∷ bytes) (eqb-true b due p)))
    (λ p. with_fault (at rule.Header (suc (length bytes))) ([], b ∷ bytes, due ∷ dues, refl, refl, refl, eqb-false b due p))) (λ x o. o) (λ rest w.
    weaker (header-ends dues rest) (λ last v. w ∙ ap (λ (l : List ℕ). due ∷ l) v)
    (λ x o. (due ∷ o.0, o.1, o.2, w ∙ ap (λ (l : List ℕ). due ∷ l) o.3, ap (λ (l : List ℕ). due ∷ l) o.4, o.5, o.6)))

-- the header is read again
header-again : (dues rest : List ℕ) → header_at dues (dues ++ rest) ≡ Ok rest
unfolding header_at header_byte_at
header-again [] rest = refl
header-again (due ∷ dues) rest = rw (eq-eqb due due refl) (header-again dues rest)

-- ---- the sections of a module, in their order

-- what all sections list
abbrev AreParts : Parts → List Raw → Type 0
AreParts = Both Type_of_function 1 (Both Imported 2 (Both Index 3 (Both Memory 5 (Both Global 6 (Both Exported 7 (Both Body 10 (Both Data 11 Nothing)))))))

sections-chain : Chain AreParts 0 sections_at
unfolding sections_at
sections-chain =
    section-chain function_type-reads (omega arith) refl (0, omega arith, refl) (λ Q h. inr (inl (refl, h)))
    (section-chain import-reads (omega arith) refl (1, omega arith, refl) (λ Q h. inr (inr (inl (refl, h))))
    (section-chain index-reads (omega arith) refl (2, omega arith, refl) (λ Q h. inr (inr (inr (inl (refl, h)))))
    (section-chain memory-reads (omega arith) refl (3, omega arith, refl) (λ Q h. inr (inr (inr (inr (inl (refl, h))))))
    (section-chain global-reads (omega arith) refl (4, omega arith, refl) (λ Q h. inr (inr (inr (inr (inr (inl (refl, h)))))))
    (section-chain export-reads (omega arith) refl (5, omega arith, refl) (λ Q h. inr (inr (inr (inr (inr (inr (inl (refl, h))))))))
    (section-chain body-reads (omega arith) refl (6, omega arith, refl) (λ Q h. inr (inr (inr (inr (inr (inr (inr (inl (refl, h)))))))))
    (section-chain segment-reads (omega arith) refl (7, omega arith, refl) (λ Q h. inr (inr (inr (inr (inr (inr (inr (inr (refl, h)))))))))
    last-chain)))))))

-- ---- the module

-- what is read is spelled, and what is refused fails
pub module-ends : (bytes : List ℕ) → Ends (Spelled bytes) (Broken NoModule bytes) (module_at bytes)
unfolding module_at
module-ends bytes =
    step (header_at header bytes) (header-ends header bytes)
    (λ x o. record { fails = inl (ap (λ (y : Fault). y.rule) o.5, o.0, o.1, o.2, o.3, o.4, ap (λ (y : Fault). y.left) o.5, o.6); within = omega (arith, ap (λ (y : Fault). y.left) o.5, ap length o.3, length-append o.0 o.1) }) (λ rest w.
    step (sections_at begin rest) (sections-chain.ends begin rest)
    (λ x s. let f = s.fails in record { fails = inr (inl (f.0, f.1, f.2, record { front = header; back = rest; whole = w; first = refl; second = f.3 })); within = omega (arith, s.within, ap length w, length-append header rest) }) (λ y a.
    let m = whole_of y.0 y.1 in
    let l = a.lists in
    let whole : Joined (Is header) (Each RawSection a.raws) bytes = record { front = header; back = rest; whole = w; first = refl; second = a.each } in
    by_test (eqb (length m.functions) (length m.codes))
    (λ same. with_value _ (record { raws = a.raws; found = a.customs; whole = whole; order = a.order; types = l.0; imports = l.1.0; functions = l.1.1.0; memory = l.1.1.1.0; globals = l.1.1.1.1.0; exports = l.1.1.1.1.1.0; codes = l.1.1.1.1.1.1.0; segments = l.1.1.1.1.1.1.1.0; customs = a.are; sorted = a.sorted; bodies = eqb-true _ _ same }))
    (λ other. with_fault (at rule.Size 0) (record { fails = inr (inr (refl, refl, a.raws, m.functions, m.codes, a.order, whole, l.1.1.0, l.1.1.1.1.1.1.0, eqb-false _ _ other)); within = omega arith }))))

-- the first fault of reading, at its offset
pub fails-at : (bytes : List ℕ) (x : Fault) → module_at bytes ≡ Err x → FailsAt x.rule (length bytes - x.left) bytes
fails-at bytes x e = let b = (module-ends bytes).err x e in (x.left, omega (arith, b.within), b.fails)

-- what is spelled is read again
pub module-again : (bytes : List ℕ) (m : Module) → Spelled bytes m → module_at bytes ≡ Ok m
unfolding module_at
module-again bytes m s =
    let w = s.whole in
    let first : header_at header bytes ≡ Ok w.back = ap (header_at header) (w.whole ∙ ap (λ (l : List ℕ). l ++ w.back) w.first) ∙ header-again header w.back in
    let parts : Parts = (m.types, (m.imports, (m.functions, (m.memory, (m.globals, (m.exports, (m.codes, (m.segments, tt)))))))) in
    let lists : AreParts parts s.raws = (s.types, (s.imports, (s.functions, (s.memory, (s.globals, (s.exports, (s.codes, (s.segments, tt)))))))) in
    let all = sections-chain.again begin w.back (parts, m.customs) (record { raws = s.raws; customs = s.found; each = w.second; order = s.order; are = s.customs; lists = lists; sorted = s.sorted }) in
    rw (first, all, eq-eqb (length m.functions) (length m.codes) s.bodies) refl

-- what is spelled is what is read, so it is one module
pub spelled_once : (bytes : List ℕ) (m n : Module) → Spelled bytes m → Spelled bytes n → m ≡ n
spelled_once bytes m n s t = ok_is m n (sym (module-again bytes m s) ∙ module-again bytes n t)
