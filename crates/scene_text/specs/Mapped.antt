-- The call that the columns of a mapping say.
use Rattle.cs_policy.specs.declared.call.Call.{Call}
use Rattle.cs_policy.specs.declared.call.Call.TheVariants.{Map}
use Rattle.scene_text.specs.declared.call_lines.Mapping.{Mapping}

abbrev pub map_of : Mapping → Call
map_of m = Map m.pid m.addr m.file m.first m.pages m.prot m.shared
