-- Keys that are equal, and the comparison that is derived for the structs.
use Rattle.std.proofs.Common.{◌≡◌, ℕ, Bool, true, ◌&&◌, List, Option, None, Some, option_map, nat_eq, string_bytes, Bor, refl, ap, sym, subst}
use Rattle.std.specs.Bool.{Decides}
use Rattle.std.specs.Bool.{one_answer}
use Rattle.std.specs.HashMap.{get, get_by}
use Rattle.std.specs.Option.{option_eq}
use Rattle.std.specs.Str.{bytes_eq}
use Rattle.std.proofs.lemmas.Bool.{false≢true, and_parts, and_from}
use Rattle.std.proofs.lemmas.Bool.Decides.{Decides-eqb}
use Rattle.std.proofs.lemmas.Slice.Eq.{bytes_eq-Decides}
use Rattle.indexmap.specs.IndexMap.{IndexMap}
use Rattle.rl_sarif.specs.declared.key.About.{About}
use Rattle.rl_sarif.specs.declared.key.Key.{Key}
use Rattle.rl_sarif.specs.contracts.key.AboutPartialEq.TheImpl as about
use Rattle.rl_sarif.specs.contracts.key.KeyPartialEq.TheImpl as key
use Rattle.rl_sarif.specs.Keys.{EntryKey, Subject, same_subject, same_key, subject_in, key_in}

-- ---- the same key is an equal key

option-decides : {T : Type 0} (E : T → T → Bool) → ((x y : T) → Decides (E x y) (x ≡ y)) → (a b : Option T) → Decides (option_eq E a b) (a ≡ b)
option-decides E h None None = (λ e. refl, λ e. refl)
option-decides E h None (Some y) = (λ e. absurd (false≢true e), λ e. cc)
option-decides E h (Some x) None = (λ e. absurd (false≢true e), λ e. cc)
option-decides E h (Some x) (Some y) = (λ e. ap Some ((h x y).0 e), λ e. (h x y).1 (cc))

text-decides : (a b : Option (List ℕ)) → Decides (option_eq bytes_eq a b) (a ≡ b)
text-decides = option-decides bytes_eq bytes_eq-Decides

number-decides : (a b : Option ℕ) → Decides (option_eq nat_eq a b) (a ≡ b)
number-decides = option-decides nat_eq Decides-eqb

subject-itself : (a : Subject) → same_subject a a ≡ true
subject-itself a =
    and_from _ _ ((text-decides a.call a.call).1 refl)
    (and_from _ _ ((bytes_eq-Decides a.kind a.kind).1 refl)
    (and_from _ _ ((number-decides a.degree a.degree).1 refl)
    (and_from _ _ ((text-decides a.limit a.limit).1 refl) ((text-decides a.cause a.cause).1 refl))))

subject-equal : (a b : Subject) → same_subject a b ≡ true → a ≡ b
subject-equal a b h =
    let p = and_parts (option_eq bytes_eq a.call b.call) _ h in
    let q = and_parts (bytes_eq a.kind b.kind) _ p.1 in
    let r = and_parts (option_eq nat_eq a.degree b.degree) _ q.1 in
    let s = and_parts (option_eq bytes_eq a.limit b.limit) _ r.1 in
    λ i. record {
      call = (text-decides a.call b.call).0 p.0 i;
      kind = (bytes_eq-Decides a.kind b.kind).0 q.0 i;
      degree = (number-decides a.degree b.degree).0 r.0 i;
      limit = (text-decides a.limit b.limit).0 s.0 i;
      cause = (text-decides a.cause b.cause).0 s.1 i;
    }

pub same_key-equal : (a b : EntryKey) → same_key a b ≡ true → a ≡ b
same_key-equal a b h =
    let p = and_parts (bytes_eq a.path b.path) (same_subject a.subject b.subject) h in
    λ i. record { path = (bytes_eq-Decides a.path b.path).0 p.0 i; subject = subject-equal a.subject b.subject p.1 i }

pub same_key-itself : (a : EntryKey) → same_key a a ≡ true
same_key-itself a = and_from (bytes_eq a.path a.path) (same_subject a.subject a.subject) ((bytes_eq-Decides a.path a.path).1 refl) (subject-itself a.subject)

pub same_key-decides : (a b : EntryKey) → Decides (same_key a b) (a ≡ b)
same_key-decides a b = (same_key-equal a b, λ e. subst (λ k. same_key a k ≡ true) e (same_key-itself a))

pub same_key-flip : (a b : EntryKey) → same_key a b ≡ same_key b a
same_key-flip a b =
    one_answer (same_key a b) (same_key b a) (same_key-decides a b)
    (λ e. sym ((same_key-decides b a).0 e), λ e. (same_key-decides b a).1 (sym e))

-- ---- the derived comparison is that of the keys

named-eq : (a b : Option (Bor (List ℕ))) → option_eq (λ (x y : Bor (List ℕ)). bytes_eq x.now y.now) a b
    ≡ option_eq bytes_eq (option_map (λ (n : Bor (List ℕ)). n.now) a) (option_map (λ (n : Bor (List ℕ)). n.now) b)
named-eq None None = refl
named-eq None (Some y) = refl
named-eq (Some x) None = refl
named-eq (Some x) (Some y) = refl

about-eq : (a b : About) → about.eq-value.it a b ≡ same_subject (subject_in a) (subject_in b)
about-eq a b = λ i. named-eq a.call b.call i && (bytes_eq a.kind.now b.kind.now && (option_eq nat_eq a.degree b.degree
    && (named-eq a.limit b.limit i && named-eq a.cause b.cause i)))

pub key-eq : (a b : Key) → key.eq-value.it a b ≡ same_key (key_in a) (key_in b)
key-eq a b = λ i. bytes_eq (string_bytes a.path) (string_bytes b.path) && about-eq a.about b.about i

-- What a look-up of a key finds.
pub found : {S : Type 0} (m : IndexMap Key ℕ S) (q : Key) → get key.eq-value.it m q ≡ get_by (λ k. same_key (key_in q) (key_in k)) m
found m q = λ i. get_by (λ k. key-eq q k i) m
