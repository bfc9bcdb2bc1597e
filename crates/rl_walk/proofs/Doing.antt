-- What parts of a walk do, one after another.
use Rattle.std.proofs.Common.{◌≡◌, ℕ, ◌+◌, ◌<◌, ◌≤◌, Bool, true, false, ◌||◌, not, List, [], ◌∷◌, ◌++◌, length, take, map, get_or, Option, Some, None, Result, Ok, Err, refl, sym, ap, subst, ◌∙◌, append_assoc, append-nil, arith, ⊎_elim, Bor}
use Rattle.std.specs.Prelude.{IfSome, IsSomeAnd, OnOk, if◌then◌else◌}
use Rattle.std.proofs.lemmas.Bool.{or_cases, false≢true}
use Rattle.std.proofs.lemmas.List.Folds.{list_any-append}
use Rattle.rl_source.specs.Asked.{call_of}
use Rattle.rl_source.specs.Distinct.{Lists}
use Rattle.rl_source.specs.Faults.{Rose}
use Rattle.rl_source.specs.NodeMap.{kind_at, children_at, bytes_at}
use Rattle.rl_source.specs.Revealed.{Revealed, after}
use Rattle.rl_source.specs.declared.nodes.Call.{Call}
use Rattle.rl_source.specs.declared.nodes.Query.TheVariants as query
use Rattle.rl_source.specs.declared.nodes.Child.{Child}
use Rattle.rl_source.specs.declared.nodes.Kind.{Kind}
use Rattle.rl_source.specs.declared.nodes.Kind.TheVariants as kinds
use Rattle.rl_source.specs.declared.nodes.Node.{Node}
use Rattle.rl_walk.specs.declared.visits.Visit.{Visit}
use Rattle.rl_walk.specs.declared.visits.Visit.TheVariants.{Source, Unreadable, TooDeep, NotPlain}
use Rattle.rl_walk.specs.Children.{path_below, has_source_name, IsInOrder}
use Rattle.rl_walk.specs.Steps.{Step, named, file, folder, other, step_for, steps_below, child_steps, is_met, with_path}
use Rattle.rl_walk.specs.Visits.{IsWalk, done, unknown, known, not_plain, file_again, unread, source, folder_again, too_deep, unlisted, listed, Moment, Walked, is_unreadable, has_failed, has_unreadable}
use Rattle.rl_walk.specs.internal.Parts.{Begins, Does}
use Rattle.rl_walk.proofs.Paths.{met-new, met-again, with_path-new, with_path-again}
use Rattle.rl_walk.specs.declared.walking.TheConstants.{MOST_LEVELS}
use Rattle.std.proofs.lemmas.List.{take_more, map_push}
use Rattle.std.proofs.Math.Seq.{take-length}
use Rattle.std.proofs.lemmas.List.Sorted.{IsPermutation-trans}
use Rattle.rl_lists.specs.declared.limits.TheConstants.{MOST_BYTES}

abbrev pub Paths : Type 0
Paths = List (List ℕ)

pub on_ok : {T E A B : Type 0} (r : Result T E) → (A → B) → OnOk r A → OnOk r B
on_ok (Ok x) f a = f a
on_ok (Err e) f a = tt

-- The fact that an answer of the map gives.
pub some_answer : {A : Type 0} (P : A → Type 0) (o : Option A) → IsSomeAnd o P → (x : A) × (o ≡ Some x) × P x
some_answer P None h = absurd h
some_answer P (Some x) h = (x, refl, h)

told_answer : (P : Revealed → Type 0) (o : Option Revealed) (t : Revealed) → IfSome o P → o ≡ Some t → P t
told_answer P o t h e = subst (λ x. IfSome x P) e h

-- Trails one after another.
after-none : (o : Option Revealed) → after [] o ≡ o
after-none None = refl
after-none (Some t) = ap (λ (l : List Call). Some (record t { trail = l })) (append-nil t.trail)

after-more : (first second : List Call) (o : Option Revealed) → after second (after first o) ≡ after (first ++ second) o
after-more first second None = refl
after-more first second (Some t) = ap (λ (l : List Call). Some (record t { trail = l })) (append_assoc t.trail first second)

-- Fault counts.
rose-later : (a b c : ℕ) → Rose a b → b ≤ c → Rose a c
rose-later a b c r l = omega arith

pub rose-earlier : (a b c : ℕ) → a ≤ b → Rose b c → Rose a c
rose-earlier a b c l r = omega arith

-- Nothing was done.
pub Does-none : (m : Moment) (met : Paths) (was : List Visit → Type 0) → Does [] m m met met was was
Does-none m met was = record {
  calls = [];
  visits = [];
  trail = sym (after-none m.told);
  begins = λ t e. record { then = λ rest calls visits w. w };
  told = λ earlier h. subst was (sym (append-nil earlier)) h;
  failures = refl;
  cause = λ h. absurd (false≢true h);
}

begins-more : (nodes : List Node) (first second : List Step) (m1 m2 m3 : Paths) (c1 c2 : List Call) (v1 v2 : List Visit)
    → Begins nodes first m1 m2 c1 v1 → Begins nodes second m2 m3 c2 v2 → Begins nodes (first ++ second) m1 m3 (c1 ++ c2) (v1 ++ v2)
begins-more nodes first second m1 m2 m3 c1 c2 v1 v2 a b = record {
  then = λ rest calls visits w.
      rw (append_assoc first second rest, append_assoc c1 c2 calls, append_assoc v1 v2 visits)
      (a.then (second ++ rest) (c2 ++ calls) (v2 ++ visits) (b.then rest calls visits w));
}

-- The map stays the same.
same_map : (calls : List Call) (old new : Option Revealed) (t : Revealed) → new ≡ after calls old → old ≡ Some t → new ≡ Some (record t { trail = t.trail ++ calls })
same_map calls old new t e s = e ∙ ap (after calls) s

pub Does-more : {first second : List Step} {a b c : Moment} {m1 m2 m3 : Paths} {w1 w2 w3 : List Visit → Type 0}
    → Does first a b m1 m2 w1 w2 → Does second b c m2 m3 w2 w3 → a.faults ≤ b.faults → b.faults ≤ c.faults
    → Does (first ++ second) a c m1 m3 w1 w3
Does-more {first} {second} {a} {b} {c} {m1} {m2} {m3} {w1} {w2} {w3} d e l k = record {
  calls = d.calls ++ e.calls;
  visits = d.visits ++ e.visits;
  trail = e.trail ∙ ap (after e.calls) d.trail ∙ after-more d.calls e.calls a.told;
  begins = λ t s. begins-more t.nodes first second m1 m2 m3 d.calls e.calls d.visits e.visits (d.begins t s)
      (e.begins (record t { trail = t.trail ++ d.calls }) (same_map d.calls a.told b.told t d.trail s));
  told = λ earlier h. subst w3 (append_assoc earlier d.visits e.visits) (e.told (earlier ++ d.visits) (d.told earlier h));
  failures = list_any-append is_unreadable d.visits e.visits ∙ ap (λ x. x || has_unreadable e.visits) d.failures ∙ ap (λ x. has_failed d.calls || x) e.failures
      ∙ sym (list_any-append (λ (x : Call). x.failed) d.calls e.calls);
  cause = λ h. ⊎_elim
      (λ u. rose-later a.faults b.faults c.faults (d.cause u) k)
      (λ u. rose-earlier a.faults b.faults c.faults l (e.cause u))
      (or_cases (has_unreadable d.visits) (has_unreadable e.visits) (sym (list_any-append is_unreadable d.visits e.visits) ∙ h));
}

-- The visit that the visitor received, given under another name of its path.
pub told-visit : (was now : List Visit → Type 0) (visit same : Visit) → ((visits : List Visit) → was visits → now (visits ++ visit ∷ [])) → visit ≡ same
    → (visits : List Visit) → was visits → now (visits ++ same ∷ [])
told-visit was now visit same h e visits w = subst (λ v. now (visits ++ v ∷ [])) e (h visits w)

-- The trail after two parts.
trail-more : (first second : List Call) (old mid new : Option Revealed) → mid ≡ after first old → new ≡ after second mid → new ≡ after (first ++ second) old
trail-more first second old mid new e k = k ∙ ap (after second) e ∙ after-more first second old

module _ (path : List ℕ) (met next : Paths) (added : Bool) (says : added ≡ not (is_met path met)) (goes : next ≡ with_path met path) where
  -- A file or folder that was met before is skipped.
  pub file-again : (m : Moment) (was : List Visit → Type 0) → added ≡ false → Does (file path ∷ []) m m met next was was
  file-again m was old = record {
    calls = [];
    visits = [];
    trail = sym (after-none m.told);
    begins = λ t e. record {
      then = λ rest calls visits w.
          let there = met-again path met added says old in
          file_again there (subst (λ (ps : Paths). IsWalk t.nodes rest ps calls visits) (goes ∙ with_path-again path met there) w);
    };
    told = λ earlier h. subst was (sym (append-nil earlier)) h;
    failures = refl;
    cause = λ h. absurd (false≢true h);
  }

  pub folder-again : (level : ℕ) (m : Moment) (was : List Visit → Type 0) → added ≡ false → Does (folder path level ∷ []) m m met next was was
  folder-again level m was old = record {
    calls = [];
    visits = [];
    trail = sym (after-none m.told);
    begins = λ t e. record {
      then = λ rest calls visits w.
          let there = met-again path met added says old in
          folder_again there (subst (λ (ps : Paths). IsWalk t.nodes rest ps calls visits) (goes ∙ with_path-again path met there) w);
    };
    told = λ earlier h. subst was (sym (append-nil earlier)) h;
    failures = refl;
    cause = λ h. absurd (false≢true h);
  }

  module _ (new_path : added ≡ true) where
    is_new : is_met path met ≡ false
    is_new = met-new path met added says new_path

    on_new : (nodes : List Node) (rest : List Step) (calls : List Call) (visits : List Visit) → IsWalk nodes rest next calls visits → IsWalk nodes rest (met ++ path ∷ []) calls visits
    on_new nodes rest calls visits w = subst (λ (ps : Paths). IsWalk nodes rest ps calls visits) (goes ∙ with_path-new path met is_new) w

    pub file-unread : (old new : Moment) (was now : List Visit → Type 0) → new.told ≡ after (call_of (query.Read (MOST_BYTES + 1)) path true ∷ []) old.told → Rose old.faults new.faults
        → ((visits : List Visit) → was visits → now (visits ++ Unreadable path ∷ [])) → Does (file path ∷ []) old new met next was now
    file-unread old new was now trail rose told = record {
      calls = call_of (query.Read (MOST_BYTES + 1)) path true ∷ [];
      visits = Unreadable path ∷ [];
      trail = trail;
      begins = λ t e. record { then = λ rest calls visits w. unread is_new (on_new t.nodes rest calls visits w) };
      told = told;
      failures = refl;
      cause = λ h. rose;
    }

    pub file-source : (old new : Moment) (was now : List Visit → Type 0) (bytes : List ℕ) → new.told ≡ after (call_of (query.Read (MOST_BYTES + 1)) path false ∷ []) old.told
        → IfSome old.told (λ t. IsSomeAnd (bytes_at t.nodes path) (λ content. bytes ≡ take (MOST_BYTES + 1) content))
        → ((visits : List Visit) → was visits → now (visits ++ Source path bytes ∷ [])) → Does (file path ∷ []) old new met next was now
    file-source old new was now bytes trail answer told = record {
      calls = call_of (query.Read (MOST_BYTES + 1)) path false ∷ [];
      visits = Source path bytes ∷ [];
      trail = trail;
      begins = λ t e. record {
        then = λ rest calls visits w.
            let found = some_answer (λ content. bytes ≡ take (MOST_BYTES + 1) content) (bytes_at t.nodes path) (told_answer (λ u. IsSomeAnd (bytes_at u.nodes path) (λ content. bytes ≡ take (MOST_BYTES + 1) content)) old.told t answer e) in
            subst (λ bs. IsWalk t.nodes (file path ∷ rest) met (call_of (query.Read (MOST_BYTES + 1)) path false ∷ calls) (Source path bs ∷ visits)) (sym found.2)
            (source is_new found.1 (on_new t.nodes rest calls visits w));
      };
      told = told;
      failures = refl;
      cause = λ h. absurd (false≢true h);
    }

    pub folder-deep : (level : ℕ) (m : Moment) (was now : List Visit → Type 0) → MOST_LEVELS < level
        → ((visits : List Visit) → was visits → now (visits ++ TooDeep path ∷ [])) → Does (folder path level ∷ []) m m met next was now
    folder-deep level m was now deep told = record {
      calls = [];
      visits = TooDeep path ∷ [];
      trail = sym (after-none m.told);
      begins = λ t e. record { then = λ rest calls visits w. too_deep is_new deep (on_new t.nodes rest calls visits w) };
      told = told;
      failures = refl;
      cause = λ h. absurd (false≢true h);
    }

    pub folder-unlisted : (level : ℕ) (old new : Moment) (was now : List Visit → Type 0) → level ≤ MOST_LEVELS → new.told ≡ after (call_of query.Children path true ∷ []) old.told
        → Rose old.faults new.faults
        → ((visits : List Visit) → was visits → now (visits ++ Unreadable path ∷ [])) → Does (folder path level ∷ []) old new met next was now
    folder-unlisted level old new was now low trail rose told = record {
      calls = call_of query.Children path true ∷ [];
      visits = Unreadable path ∷ [];
      trail = trail;
      begins = λ t e. record { then = λ rest calls visits w. unlisted is_new low (on_new t.nodes rest calls visits w) };
      told = told;
      failures = refl;
      cause = λ h. rose;
    }

    pub folder-listed : (level : ℕ) (old mid new : Moment) (last : Paths) (was now : List Visit → Type 0) (found sorted : List Child)
        → level ≤ MOST_LEVELS → mid.told ≡ after (call_of query.Children path false ∷ []) old.told
        → IfSome old.told (λ t. IsSomeAnd (children_at t.nodes path) (λ children. Lists children found))
        → IsInOrder found sorted → old.faults ≤ mid.faults
        → Does (steps_below path level sorted) mid new next last was now → Does (folder path level ∷ []) old new met last was now
    folder-listed level old mid new last was now found sorted low trail answer order later d = record {
      calls = call_of query.Children path false ∷ d.calls;
      visits = d.visits;
      trail = trail-more (call_of query.Children path false ∷ []) d.calls old.told mid.told new.told trail d.trail;
      begins = λ t e. record {
        then = λ rest calls visits w.
            let has = some_answer (λ children. Lists children found) (children_at t.nodes path) (told_answer (λ u. IsSomeAnd (children_at u.nodes path) (λ children. Lists children found)) old.told t answer e) in
            let goes_on = d.begins (record t { trail = t.trail ++ call_of query.Children path false ∷ [] }) (same_map (call_of query.Children path false ∷ []) old.told mid.told t trail e) in
            listed is_new low has.1 (record { same = IsPermutation-trans has.0 found sorted has.2.same order.same; rising = order.rising })
            (on_new t.nodes (steps_below path level sorted ++ rest) (d.calls ++ calls) (d.visits ++ visits) (goes_on.then rest calls visits w));
      };
      told = d.told;
      failures = d.failures;
      cause = λ h. rose-earlier old.faults mid.faults new.faults later (d.cause h);
    }

module _ (path : List ℕ) where
  pub named-unknown : (met : Paths) (old new : Moment) (was now : List Visit → Type 0) → new.told ≡ after (call_of query.Kind path true ∷ []) old.told → Rose old.faults new.faults
      → ((visits : List Visit) → was visits → now (visits ++ Unreadable path ∷ [])) → Does (named path ∷ []) old new met met was now
  named-unknown met old new was now trail rose told = record {
    calls = call_of query.Kind path true ∷ [];
    visits = Unreadable path ∷ [];
    trail = trail;
    begins = λ t e. record { then = λ rest calls visits w. unknown w };
    told = told;
    failures = refl;
    cause = λ h. rose;
  }

  pub other-told : (met : Paths) (m : Moment) (was now : List Visit → Type 0)
      → ((visits : List Visit) → was visits → now (visits ++ NotPlain path ∷ [])) → Does (other path ∷ []) m m met met was now
  other-told met m was now told = record {
    calls = [];
    visits = NotPlain path ∷ [];
    trail = sym (after-none m.told);
    begins = λ t e. record { then = λ rest calls visits w. not_plain w };
    told = told;
    failures = refl;
    cause = λ h. absurd (false≢true h);
  }

  pub named-known : (kind : Kind) (old mid new : Moment) (met last : Paths) (was now : List Visit → Type 0)
      → mid.told ≡ after (call_of query.Kind path false ∷ []) old.told
      → IfSome old.told (λ t. kind_at t.nodes path ≡ Some kind) → old.faults ≤ mid.faults
      → Does (step_for kind path ∷ []) mid new met last was now → Does (named path ∷ []) old new met last was now
  named-known kind old mid new met last was now trail answer later d = record {
    calls = call_of query.Kind path false ∷ d.calls;
    visits = d.visits;
    trail = trail-more (call_of query.Kind path false ∷ []) d.calls old.told mid.told new.told trail d.trail;
    begins = λ t e. record {
      then = λ rest calls visits w.
          let goes_on = d.begins (record t { trail = t.trail ++ call_of query.Kind path false ∷ [] }) (same_map (call_of query.Kind path false ∷ []) old.told mid.told t trail e) in
          known (told_answer (λ u. kind_at u.nodes path ≡ Some kind) old.told t answer e) (goes_on.then rest calls visits w);
    };
    told = d.told;
    failures = d.failures;
    cause = λ h. rose-earlier old.faults mid.faults new.faults later (d.cause h);
  }

-- A child that is skipped.
pub file-passed : (kind : Kind) (name path : List ℕ) (level : ℕ) → kind ≡ kinds.File → has_source_name name ≡ false → child_steps kind name path level ≡ []
file-passed kind name path level e f = ap (λ k. child_steps k name path level) e ∙ ap (λ b. if b then file path ∷ [] else []) f

pub Does-nothing : (steps : List Step) (m : Moment) (met : Paths) (was : List Visit → Type 0) → steps ≡ [] → Does steps m m met met was was
Does-nothing steps m met was e = subst (λ (ss : List Step). Does ss m m met met was was) (sym e) (Does-none m met was)

-- The steps for the children, with one more child.
pub steps_below-more : (path : List ℕ) (level : ℕ) (children : List Child) (child : Child)
    → steps_below path level (children ++ child ∷ []) ≡ steps_below path level children ++ child_steps child.kind child.name (path_below path child.name) (level + 1)
steps_below-more path level [] child = append-nil _
steps_below-more path level (c ∷ cs) child =
    ap (λ (l : List Step). child_steps c.kind c.name (path_below path c.name) (level + 1) ++ l) (steps_below-more path level cs child)
    ∙ sym (append_assoc (child_steps c.kind c.name (path_below path c.name) (level + 1)) (steps_below path level cs) (child_steps child.kind child.name (path_below path child.name) (level + 1)))

-- The whole walk.
pub Walked-done : (paths : List (List ℕ)) (old new : Moment) (met : Paths) (was now : List Visit → Type 0)
    → Does (map named paths) old new [] met was now → Walked old new paths was now
Walked-done paths old new met was now d = record {
  calls = d.calls;
  visits = d.visits;
  trail = d.trail;
  right = λ t e. subst (λ (ss : List Step). IsWalk t.nodes ss [] d.calls d.visits) (append-nil (map named paths))
      (subst (λ (cs : List Call). IsWalk t.nodes (map named paths ++ []) [] cs d.visits) (append-nil d.calls)
      (subst (λ (vs : List Visit). IsWalk t.nodes (map named paths ++ []) [] (d.calls ++ []) vs) (append-nil d.visits)
      ((d.begins t e).then [] [] [] done)));
  told = d.told;
  failures = d.failures;
  cause = d.cause;
}

-- A visit at the end of a call.
pub on_visit : {T E D : Type 0} (r : Result T E) (was now : List Visit → Type 0) (visit same : Visit)
    → OnOk r ((visits : List Visit) → was visits → now (visits ++ visit ∷ [])) → visit ≡ same
    → (((visits : List Visit) → was visits → now (visits ++ same ∷ [])) → D) → OnOk r D
on_visit r was now visit same h e f = on_ok r (λ told. f (told-visit was now visit same told e)) h

-- One more round of the loop over the children.
pub children-turn : (path : List ℕ) (level : ℕ) (children : List Child) (i : ℕ) (child : Child) (below : List ℕ) {a b c : Moment} {m1 m2 m3 : Paths} {w1 w2 w3 : List Visit → Type 0}
    → i < length children → child ≡ get_or children i child → below ≡ path_below path child.name
    → Does (steps_below path level (take i children)) a b m1 m2 w1 w2 → Does (child_steps child.kind child.name below (level + 1)) b c m2 m3 w2 w3
    → a.faults ≤ b.faults → b.faults ≤ c.faults
    → Does (steps_below path level (take (i + 1) children)) a c m1 m3 w1 w3
children-turn path level children i child below {a} {b} {c} {m1} {m2} {m3} {w1} {w2} {w3} within is at d e l k =
    let turn : steps_below path level (take i children) ++ child_steps child.kind child.name below (level + 1) ≡ steps_below path level (take (i + 1) children) =
    ap (λ p. steps_below path level (take i children) ++ child_steps child.kind child.name p (level + 1)) at
    ∙ sym (steps_below-more path level (take i children) child)
    ∙ ap (λ (x : Child). steps_below path level (take i children ++ x ∷ [])) is
    ∙ ap (steps_below path level) (sym (take_more children i child within)) in
    subst (λ (ss : List Step). Does ss a c m1 m3 w1 w3) turn (Does-more d e l k)

-- One more round of the loop over the paths.
pub named-turn : (paths : List (Bor (List ℕ))) (i : ℕ) (d : Bor (List ℕ)) {a b c : Moment} {m1 m2 m3 : Paths} {w1 w2 w3 : List Visit → Type 0}
    → i < length paths
    → Does (map named (map (λ p. p.now) (take i paths))) a b m1 m2 w1 w2 → Does (named (get_or paths i d).now ∷ []) b c m2 m3 w2 w3
    → a.faults ≤ b.faults → b.faults ≤ c.faults
    → Does (map named (map (λ p. p.now) (take (i + 1) paths))) a c m1 m3 w1 w3
named-turn paths i d {a} {b} {c} {m1} {m2} {m3} {w1} {w2} {w3} within done_so_far next l k =
    let turn : map named (map (λ (p : Bor (List ℕ)). p.now) (take i paths)) ++ named (get_or paths i d).now ∷ [] ≡ map named (map (λ (p : Bor (List ℕ)). p.now) (take (i + 1) paths)) =
    sym (map_push named (map (λ (q : Bor (List ℕ)). q.now) (take i paths)) (get_or paths i d).now)
    ∙ ap (map named) (sym (map_push (λ (q : Bor (List ℕ)). q.now) (take i paths) (get_or paths i d)))
    ∙ ap (λ (l : List (Bor (List ℕ))). map named (map (λ (q : Bor (List ℕ)). q.now) l)) (sym (take_more paths i d within)) in
    subst (λ (ss : List Step). Does ss a c m1 m3 w1 w3) turn (Does-more done_so_far next l k)

-- After the last round.
pub walked-all : (paths : List (Bor (List ℕ))) (i : ℕ) {old new : Moment} {met : Paths} {was now : List Visit → Type 0} → i ≡ length paths
    → Does (map named (map (λ p. p.now) (take i paths))) old new [] met was now → Walked old new (map (λ p. p.now) paths) was now
walked-all paths i {old} {new} {met} {was} {now} all d =
    let whole : take i paths ≡ paths = ap (λ n. take n paths) all ∙ take-length paths in
    Walked-done (map (λ p. p.now) paths) old new met was now (subst (λ (l : List (Bor (List ℕ))). Does (map named (map (λ p. p.now) l)) old new [] met was now) whole d)
