-- What a manifest gives, and how it is refused.
use Rattle.std.proofs.Common.{◌≡◌, ℕ, ◌≤◌, ◌&&◌, Bool, true, false, cond, nat_le, List, [], ◌∷◌, length, Option, Some, None, refl, sym, ◌∙◌, ap, subst, arith}
use Rattle.std.specs.Prelude.{codes, option_map, option_and_then}
use Rattle.std.proofs.lemmas.Bool.{leb-true}
use Rattle.std.proofs.lemmas.List.{length-map}
use Rattle.serde_json.specs.Data.{Data, null, boolean, number, string, array, object, Items, no_items, item}
use Rattle.serde_json.specs.Events.{items_len}
use Rattle.serde_json.specs.Find.{get, as_str}
use Rattle.cm_base.specs.declared.failure.Fail.{Fail}
use Rattle.cm_base.specs.declared.failure.Fail.TheVariants as fail
use Rattle.cm_base.specs.declared.failure.Refused.{Refused}
use Rattle.patch_manifest.specs.Manifest.{IsAnswer, IsManifest, texts_of, paths_of}
use Rattle.patch_manifest.specs.SourceName.{file_name}
use Rattle.commands.specs.declared.status.Status.TheVariants as status
use Rattle.commands.specs.Patch.{NamesSources, RefusesManifest, Fault, refused_at}
use Rattle.commands.specs.Statuses.{status_of}
use Rattle.commands.specs.Steps.{Refuses, Refusal, LacksMemory}

-- a refusal that has these parts
refusal_is : (refused : Refused) (at line column : ℕ) → refused.place ≡ record { file = at; line = line; column = column } → refused.cycle ≡ [] → refused ≡ refused_at refused.cause at line column
refusal_is refused at line column place cycle =
    ap (λ p. record refused { place = p }) place
    ∙ ap (λ l. record { cause = refused.cause; place = record { file = at; line = line; column = column }; cycle = l }) cycle

-- a manifest that has a fault
pub manifest_refused : (bytes : List ℕ) (failure : Fail) → IsAnswer bytes failure → Refuses (RefusesManifest bytes) (status_of failure)
manifest_refused bytes (fail.Refused refused) is =
    Refusal refused (subst (λ (r : Refused). RefusesManifest bytes (status.Refused r)) (sym (refusal_is refused 0 0 0 is.place is.cycle)) (Fault refused.cause is.fault))
manifest_refused bytes fail.NoMemory is = LacksMemory

bound : {A B : Type 0} (o : Option A) (f : A → Option B) (y : B) → option_and_then f o ≡ Some y → (a : A) × (o ≡ Some a) × (f a ≡ Some y)
bound None f y e = absurd (cc)
bound (Some a) f y e = (a, refl, e)

mapped : {A B : Type 0} (o : Option A) (f : A → B) (y : B) → option_map f o ≡ Some y → (a : A) × (o ≡ Some a) × (f a ≡ y)
mapped None f y e = absurd (cc)
mapped (Some a) f y e = (a, refl, cc)

chosen : {A : Type 0} (t : Bool) (o : Option A) (y : A) → cond t o None ≡ Some y → (t ≡ true) × (o ≡ Some y)
chosen true o y e = (refl, e)
chosen false o y e = absurd (cc)

second : (a c : Bool) → (a && c) ≡ true → c ≡ true
second true c e = e
second false c e = absurd (cc)

-- as many texts as items
texts_len : (items : Items) (texts : List (List ℕ)) → texts_of items ≡ Some texts → length texts ≡ items_len items
texts_len no_items texts is = let none : [] ≡ texts = cc in ap length (sym none)
texts_len (item value items) texts is =
    let found = bound (as_str value) (λ text. option_map (λ more. text ∷ more) (texts_of items)) texts is in
    let rest = mapped (texts_of items) (λ more. found.0 ∷ more) texts found.2 in
    let later : length rest.0 ≡ items_len items = texts_len items rest.0 rest.1 in
    omega (arith, ap length rest.2)

few_paths : (found : Data) (paths : List (List ℕ)) → paths_of found ≡ Some paths → length paths ≤ 64
few_paths null paths is = absurd (cc)
few_paths (boolean truth) paths is = absurd (cc)
few_paths (number value) paths is = absurd (cc)
few_paths (string text) paths is = let one : text ∷ [] ≡ paths = cc in omega (arith, ap length one)
few_paths (array items) paths is =
    let some = chosen (nat_le 1 (items_len items) && nat_le (items_len items) 64) (texts_of items) paths is in
    let most : items_len items ≤ 64 = leb-true (items_len items) 64 (second (nat_le 1 (items_len items)) (nat_le (items_len items) 64) some.0) in
    omega (arith, texts_len items paths some.1)
few_paths (object found) paths is = absurd (cc)

few_found : (found : Option Data) (paths : List (List ℕ)) → option_and_then paths_of found ≡ Some paths → length paths ≤ 64
few_found None paths is = absurd (cc)
few_found (Some found) paths is = few_paths found paths is

-- a manifest names 64 sources at most
pub few_sources : (bytes id : List ℕ) (paths : List (List ℕ)) → IsManifest bytes id paths → length paths ≤ 64
few_sources bytes id paths is = few_found (get (codes "source") is.value) paths is.has_sources

pub few_names : (manifest bytes : List ℕ) (names : List (List ℕ)) → NamesSources manifest bytes names → length names ≤ 64
few_names manifest bytes names is =
    let few : length is.paths ≤ 64 = few_sources bytes is.id is.paths is.is_manifest in
    omega (arith, ap length is.are_names, length-map is.paths (file_name manifest))
