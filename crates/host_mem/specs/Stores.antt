-- What contracts see of what a disk is made of.
use Rattle.block_map.specs.Disk.{contents}
use Rattle.host_mem.specs.declared.mem_disk.Store.{Store}
use Rattle.host_mem.specs.declared.mem_disk.Store.TheVariants.{Plain, Composite}
use Rattle.host_mem.specs.Mem.{DiskData, plain_of, composite_of}

abbrev pub disk_data : Store → DiskData
disk_data (Plain bytes) = plain_of bytes.items
disk_data (Composite map files) = composite_of map (contents files.items)
