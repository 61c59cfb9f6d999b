use Rattle.incidence.specs.Incidences.{IncidenceValue, IsIncidence}
use Rattle.incidence.specs.declared.incidence.Incidence.TheInside.{Inside}

abbrev pub view_of : Inside → IncidenceValue
view_of a = record { sizes = a.sizes.items; users = a.users; chunks = a.chunks }

abbrev pub KeepsIncidence : Inside → Type 0
KeepsIncidence a = IsIncidence (view_of a)
