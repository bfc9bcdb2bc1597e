-- Spans with one more, in the middle of the loop that puts it in.
use Rattle.std.specs.Prelude.{Bool, List, if◌then◌else◌}
use Rattle.rl_marks.specs.internal.Caps.{put}
use Rattle.rl_marks.specs.declared.spans.GroupSpan.{GroupSpan}

-- The spans of `l`, by rising numbers, together with the span `s`, unless `placed` says that it has its place already.
abbrev pub put_unless : Bool → GroupSpan → List GroupSpan → List GroupSpan
put_unless placed s l = if placed then l else put s l
