pub mod Buffers
pub mod BytesFrom
pub mod LowBytes
pub mod OneBlock
pub mod Places
